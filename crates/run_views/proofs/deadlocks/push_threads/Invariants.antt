use Rattle.std.proofs.Common.{◌≡◌, ◌++◌, codes, decimal, drop}
use Rattle.std.specs.Prelude.{flat_map}
use Rattle.run_views.proofs.deadlocks.push_threads.Given as goal

-- the threads so far, and those that are left, are all
abbrev pub invariant-loop-thread : goal.invariant-loop-thread
invariant-loop-thread l =
    l.text.items ++ flat_map (λ other. codes " " ++ decimal other) (drop l.thread-index l.threads)
    ≡ l.fn.text.items ++ flat_map (λ other. codes " " ++ decimal other) l.threads
