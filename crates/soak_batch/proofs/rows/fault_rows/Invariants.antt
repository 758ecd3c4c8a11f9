use Rattle.std.proofs.Common.{◌≡◌, ◌-◌, ◌++◌}
use Rattle.soak_batch.specs.meaning.Rows.{drawn_rows}
use Rattle.soak_batch.proofs.rows.fault_rows.Given as goal

-- the faults so far, and those that are left, are all
abbrev pub invariant-loop-part : goal.invariant-loop-part
invariant-loop-part l = l.text.items ++ drawn_rows l.width l.part (40 - l.part) l.draws.state ≡ drawn_rows l.width 0 40 l.fn.draws.state
