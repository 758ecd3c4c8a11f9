use Rattle.std.proofs.Common.{◌≡◌, ℕ, ◌<◌, ◌≤◌, All, Some, slice_get, length, vec_len, vec_capacity}
use Rattle.gp_steal.specs.Held.{about, book, gathered, IsClerkOf}
use Rattle.desk_board.specs.Told.{IsRunAt}
use Rattle.gp_steal.specs.Told.{IsWhole}
use Rattle.board_tests.proofs.claims.collect_all.Given as goal

abbrev pub invariant-loop-desk : goal.invariant-loop-desk
invariant-loop-desk g l = record {
  of : IsClerkOf l.board l.clerk;
  whole : IsWhole (length (about l.board).jobs) (gathered l.clerk);
  taken : All (λ d. d < l.desk) (book l.clerk).taken;
  count : vec_len l.runs ≡ l.desk;
  room : l.board.count ≤ vec_capacity l.runs;
  runs : (k : ℕ) (run : g.row.J-Run.Denot) → slice_get l.runs.items k ≡ Some run → IsRunAt g.J.Job.is_run (about l.board) k run;
}
