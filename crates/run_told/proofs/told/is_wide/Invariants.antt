use Rattle.std.proofs.Common.{take}
use Rattle.std.specs.Prelude.{All}
use Rattle.retirement_log.specs.meaning.Rows.{IsWide}
use Rattle.run_told.proofs.told.is_wide.Given as goal

-- those so far are
abbrev pub invariant-loop-line : goal.invariant-loop-line
invariant-loop-line l = All (All IsWide) (take l.line-index l.told.lines)
