use Rattle.std.proofs.Common.{◌+◌, ◌≤◌, max}
use Rattle.pipe_crew.proofs.pipe.start_all.Given as goal

abbrev pub invariant-loop-started : goal.invariant-loop-started
invariant-loop-started g l = record { counted : l.threads + 1 ≤ l._started; few : l.threads + 1 ≤ max 1 l.fn.workers }
