use Rattle.std.proofs.Common.{◌≡◌, ◌<◌, ◌≤◌, All, map, take, vec_len, vec_capacity}
use Rattle.desk_board.specs.Held.{about, book, gathered, IsClerkOf}
use Rattle.desk_board.specs.Told.{IsWhole}
use Rattle.subthread.specs.Tasks.{IsRun, task_of}
use Rattle.pipe_crew.proofs.boards.collect.Given as goal

abbrev pub invariant-loop-desk : goal.invariant-loop-desk
invariant-loop-desk l = record {
  of : IsClerkOf l.board l.clerk;
  whole : IsWhole (gathered l.clerk);
  taken : All (λ d. d < l.desk) (book l.clerk).taken;
  count : vec_len l.runs ≡ l.desk;
  room : l.board.count ≤ vec_capacity l.runs;
  tasks : map (task_of (about l.board).with) l.runs.items ≡ take l.desk (about l.board).jobs;
  runs : All (IsRun (about l.board).with) l.runs.items;
}
