use Rattle.std.proofs.Common.{◌≡◌, ◌+◌, ◌++◌, drop}
use Rattle.restart_log.specs.meaning.Tail.{restart_lines}
use Rattle.restart_log.proofs.restarts.push_restarts.Given as goal

-- the lines so far, and those of the restarts that are left, are all
abbrev pub invariant-loop-at : goal.invariant-loop-at
invariant-loop-at l = l.text.items ++ restart_lines (l.at + 1) (drop l.at l.restarts) ≡ l.fn.text.items ++ restart_lines 1 l.restarts
