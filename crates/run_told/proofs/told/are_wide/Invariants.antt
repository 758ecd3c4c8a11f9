use Rattle.std.proofs.Common.{take}
use Rattle.std.specs.Prelude.{All}
use Rattle.retirement_log.specs.meaning.Rows.{IsWide}
use Rattle.run_told.proofs.told.are_wide.Given as goal

-- those so far are
abbrev pub invariant-loop-value : goal.invariant-loop-value
invariant-loop-value l = All IsWide (take l.value-index l.values)
