use Rattle.std.proofs.Common.{◌≡◌, ◌++◌, take}
use Rattle.restart_log.specs.meaning.Lines.{spaced}
use Rattle.restart_log.proofs.lines.push_spaced.Given as goal

-- the values so far were appended
abbrev pub invariant-loop-value : goal.invariant-loop-value
invariant-loop-value l = l.text.items ≡ l.fn.text.items ++ spaced (take l.value-index l.values)
