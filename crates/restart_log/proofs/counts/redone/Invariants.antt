use Rattle.std.proofs.Common.{◌≡◌, ◌≤◌, ◌*◌, ◌^◌, take}
use Rattle.restart_log.specs.meaning.Tail.{redone}
use Rattle.restart_log.proofs.counts.redone.Given as goal

-- the positions that the restarts so far redo, fewer than 2 ^ 64 each
abbrev pub invariant-loop-restart : goal.invariant-loop-restart
invariant-loop-restart l = (l.redone ≡ redone (take l.restart-index l.restarts)) × (l.redone ≤ l.restart-index * 2 ^ 64)
