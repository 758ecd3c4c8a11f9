use Rattle.std.proofs.Common.{◌≡◌, ◌+◌, ◌++◌, All, map, length, vec_len}
use Rattle.subthread.specs.Tasks.{Fits, IsRun, task_of}
use Rattle.steal_crew.specs.Counts.{sum_of}
use Rattle.steal_crew.proofs.boards.run_steal.Given as goal

abbrev pub invariant-loop-alloc : goal.invariant-loop-alloc
invariant-loop-alloc g l = record {
  tasks : map (task_of l.fn.work) l.runs.items ++ l.rest.items ≡ l.fn.tasks;
  runs : All (IsRun l.fn.work) l.runs.items;
  fits : All (Fits l.fn.work) l.rest.items;
  counted : sum_of l.counts + length l.rest.items ≡ length l.fn.tasks;
}

abbrev pub decreases-loop-alloc : goal.decreases-loop-alloc
decreases-loop-alloc g l = vec_len l.rest
