use Rattle.std.proofs.Common.{◌≡◌, take}
use Rattle.one_thread.proofs.run.locks_of.Given as goal

-- the locks so far were taken over
abbrev pub invariant-loop-lock : goal.invariant-loop-lock
invariant-loop-lock l = l.locks ≡ take l.lock-index l.held
