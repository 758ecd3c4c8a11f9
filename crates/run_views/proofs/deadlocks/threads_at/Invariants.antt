use Rattle.std.proofs.Common.{◌≡◌, ◌++◌, drop}
use Rattle.run_views.specs.meaning.Deadlocks.{threads_at}
use Rattle.run_views.proofs.deadlocks.threads_at.Given as goal

-- the threads so far, and those that are left, are all
abbrev pub invariant-loop-thread : goal.invariant-loop-thread
invariant-loop-thread l =
    l.threads.items ++ threads_at l.barrier l.thread (drop l.thread l.nexts) ≡ threads_at l.barrier 0 l.nexts
