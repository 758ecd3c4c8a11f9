-- Functions that run whole batches of tasks and count how they were claimed.
use Rattle.std.specs.Prelude.{◌≡◌, ◌+◌, ◌≤◌, ℕ, false, List, All, Result, IfOk, length}
use Rattle.subthread.specs.declared.task.Work.{Work}
use Rattle.subthread.specs.declared.task.Task.{Task}
use Rattle.subthread.specs.declared.task.Done.{Done}
use Rattle.subthread.specs.Tasks.{Fits, IsRun}
use Rattle.crew.specs.Out.{AreRuns}
use Rattle.crew.specs.State.{CrewState}
use Rattle.steal_crew.specs.declared.counts.Counts.{Counts}
use Rattle.steal_crew.specs.Counts.{sum_of, sum_of_three}

-- these are the runs of the tasks, in order, and each is counted
abbrev pub AreCounted : Work → List Task → List Done × (ℕ × ℕ × ℕ) → Type 0
AreCounted work ts ran = AreRuns work ts ran.0 × (sum_of_three ran.1 ≡ length ts)

-- a function may be called with all tasks that fit the work, and what it gives are their runs, counted
pub record RunsAll {E : Type 0} (work : Work) (may_call : List Task → Type 0)
    (may_give : List Task → Result (List Done × (ℕ × ℕ × ℕ)) E → Type 0) : Type 0 where
  pub callable : (ts : List Task) → All (Fits work) ts → may_call ts
  pub gives : (ts : List Task) (result : Result (List Done × (ℕ × ℕ × ℕ)) E) → may_give ts result → IfOk result (AreCounted work ts)

-- Between two calls: the function runs all, what is at hand are runs, and each task that was posted and does not wait is counted,
-- unless memory ran out; then it may not be.
pub record IsReady {E : Type 0} (inbox : CrewState) (may_call : List Task → Type 0)
    (may_give : List Task → Result (List Done × (ℕ × ℕ × ℕ)) E → Type 0) (runs : List Done) (counts : Counts) : Type 0 where
  pub runs_all : RunsAll inbox.work may_call may_give
  pub are_runs : All (IsRun inbox.work) runs
  pub counted : inbox.failed ≡ false → sum_of counts + length inbox.out ≡ length inbox.posted
  pub no_more : sum_of counts + length inbox.out ≤ length inbox.posted
