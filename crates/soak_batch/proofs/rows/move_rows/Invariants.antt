use Rattle.std.proofs.Common.{◌≡◌, ◌-◌, ◌++◌}
use Rattle.soak_batch.specs.meaning.Rows.{move_rows, after_rows}
use Rattle.soak_batch.proofs.rows.move_rows.Given as goal

-- the moves so far, and those that are left, are all, and likewise the states
abbrev pub invariant-loop-made : goal.invariant-loop-made
invariant-loop-made l = record {
  rows : l.text.items ++ move_rows (l.count - l._made) l.draws.state ≡ move_rows l.count l.fn.draws.state;
  state : after_rows (l.count - l._made) l.draws.state ≡ after_rows l.count l.fn.draws.state;
}
