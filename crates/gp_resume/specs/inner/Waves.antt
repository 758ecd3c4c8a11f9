-- What goes out together, and what of it has come back.
use Rattle.std.specs.Prelude.{◌≡◌, ◌⊎◌, ⊤, false, ℕ, ◌+◌, ◌<◌, ◌≤◌, List, [], ◌∷◌, ◌++◌, length, map, Contains, Option, Some, None, slice_get}
use Rattle.std.specs.Io.KnownBytes.{Appends}
use Rattle.task_ast.specs.meaning.Plain.{Subthread}
use Rattle.task_ast.specs.Plain.{Plain}
use Rattle.restart_log.specs.meaning.Lines.{printed}
use Rattle.subthread.specs.declared.task.Work.{Work}
use Rattle.subthread.specs.declared.task.Task.{Task}
use Rattle.subthread.specs.declared.task.Done.{Done}
use Rattle.subthread.specs.Tasks.{task_of, IsRun}
use Rattle.gp_resume.specs.declared.course.ResumePlan.{ResumePlan}
use Rattle.gp_resume.specs.declared.course.Begun.{Begun}
use Rattle.gp_resume.specs.declared.course.Course.{Course}
use Rattle.gp_resume.specs.declared.course.Step.{Step}
use Rattle.gp_resume.specs.declared.course.Step.TheVariants as step
use Rattle.gp_resume.specs.inner.Flights.{Flown, Flight, Joins, StandsPast, task_from}
use Rattle.gp_resume.specs.inner.Going.{rest, last, firsts_from}
use Rattle.gp_resume.specs.meaning.Resumed.{lines_of}

-- the tasks of those that are out, which are given what they find in this state
abbrev pub tasks_of : ResumePlan → Plain → List Flown → List Task
tasks_of plan x fs = map (λ (f : Flown). task_from plan.work.now x.state f.begun) fs

-- their subthreads
abbrev pub subthreads : List Flown → List Subthread
subthreads fs = map (λ (f : Flown). f.subthread) fs

-- the tasks have the positions from this one on
abbrev pub ArePlaced : (first : ℕ) → List Task → Type 0
ArePlaced first [] = ⊤
ArePlaced first (task ∷ tasks) = (task.pos ≡ first) × ArePlaced (first + 1) tasks

-- a place for the run of each task, which has not come back
abbrev pub AreEmpty : List Task → List (Option Done) → Type 0
AreEmpty [] [] = ⊤
AreEmpty (task ∷ tasks) (place ∷ places) = (place ≡ None) × AreEmpty tasks places
AreEmpty _ _ = ⊥

-- one task is out
abbrev pub IsOne : List Task → Type 0
IsOne out = (task : Task) × (out ≡ task ∷ [])

-- of the tasks, some are out, and the runs of the others are in their places
pub record Filling (work : Work) (tasks out : List Task) (places : List (Option Done)) : Type 0 where
  pub many : length places ≡ length tasks
  pub each : (k : ℕ) (task : Task) → slice_get tasks k ≡ Some task
      → Contains out task ⊎ ((done : Done) × (slice_get places k ≡ Some (Some done)) × (task_of work done ≡ task) × IsRun work done)
  pub among : (task : Task) → Contains out task → (k : ℕ) × (slice_get tasks k ≡ Some task)

-- the run of a task
abbrev pub IsRunOf : Work → Task → Option Done → Type 0
IsRunOf work task None = ⊥
IsRunOf work task (Some done) = (task_of work done ≡ task) × IsRun work done

-- the runs of tasks, in order
abbrev pub AreRunsOf : Work → List Task → List (Option Done) → Type 0
AreRunsOf work [] [] = ⊤
AreRunsOf work (task ∷ tasks) (run ∷ runs) = IsRunOf work task run × AreRunsOf work tasks runs
AreRunsOf work _ _ = ⊥

-- where a subthread begins, no settle is let at the next turn
abbrev pub IsClosed : Step → Course → Type 0
IsClosed (step.Goes begun) course = course.ring.cleared ≡ false
IsClosed (step.Ends end) course = ⊤

module _ (plan : ResumePlan) where
  -- a course stood where some run does, and some turns have passed since
  abbrev pub StandsSomewhere : Course → Type 0
  StandsSomewhere course = (x : Plain) × StandsPast plan x course

  -- one begins so, beside those that are out
  pub record IsJoining (begun : Begun) (course : Course) : Type 0 where
    pub threads : ℕ
    pub before : Plain
    pub flights : List Flown
    pub flown : Flown
    pub is : flown.begun ≡ begun
    pub joins : Joins plan threads before flights flown course

  -- some are out
  pub record IsFlying (threads : ℕ) (course : Course) : Type 0 where
    pub before : Plain
    pub later : Plain
    pub flights : List Flown
    pub flight : Flight plan threads before later flights course

  -- one begins so, and none is out
  pub record BeginsFirst (threads : ℕ) (begun : Begun) (course : Course) : Type 0 where
    pub before : Plain
    pub flown : Flown
    pub is : flown.begun ≡ begun
    pub joins : Joins plan threads before [] flown course

  -- what comes next beside them
  abbrev pub GivesBeside : (threads : ℕ) → (x y : Plain) → List Flown → Option Begun → Course → Type 0
  GivesBeside threads x y fs None course = Flight plan threads x y fs course
  GivesBeside threads x y fs (Some begun) course =
      (f : Flown) × (f.begun ≡ begun) × (f.before ≡ y) × Joins plan threads x fs f course

  -- the first of those that go out begins so
  abbrev pub GivesFirst : Plain → Step → Course → Type 0
  GivesFirst x (step.Goes begun) course =
      (f : Flown) × (f.begun ≡ begun) × Joins plan (length x.table.seats) x [] f course
  GivesFirst x (step.Ends end) course = ⊤

  -- of those that were out, some have come home, whose lines were written, and the runs of the others are these
  pub record Homing (threads : ℕ) (y : Plain) (fs : List Flown) (written written' : Option (List ℕ)) (runs : List (Option Done))
      (course : Course) : Type 0 where
    pub now : Plain
    pub done : List Flown
    pub left : List Flown
    pub split : fs ≡ done ++ left
    pub flight : Flight plan threads now y left course
    pub runs_are : AreRunsOf plan.work.now (tasks_of plan now left) runs
    pub wrote : Appends written written' (printed (lines_of (subthreads done)))

  -- the runs are those of all that are out
  pub record IsComing (runs : List (Option Done)) (course : Course) : Type 0 where
    pub threads : ℕ
    pub before : Plain
    pub later : Plain
    pub flights : List Flown
    pub flight : Flight plan threads before later flights course
    pub runs_are : AreRunsOf plan.work.now (tasks_of plan before flights) runs

  -- those that went out from x, after these had been posted
  pub record Sent (threads : ℕ) (x : Plain) (before posted : List (ℕ × ℕ)) (out : List Task) (course : Course) : Type 0 where
    pub later : Plain
    pub flights : List Flown
    pub some : 0 < length flights
    pub flight : Flight plan threads x later flights course
    pub out_are : out ≡ tasks_of plan x flights
    pub posts : posted ≡ before ++ firsts_from x.table.issued (length flights)

  -- some are out so; before they were posted, none of the positions from theirs on had been
  pub record IsSent (threads : ℕ) (posted : List (ℕ × ℕ)) (out : List Task) (course : Course) : Type 0 where
    pub before : Plain
    pub posted_before : List (ℕ × ℕ)
    pub fresh : (p : ℕ) → before.table.issued ≤ p → ¬ Contains posted_before (p, 0)
    pub sent : Sent threads before posted_before posted out course

  -- the run went on from x by these subthreads
  pub record WentBy (x : Plain) (written written' : Option (List ℕ)) (before posted : List (ℕ × ℕ)) (course : Course) : Type 0 where
    pub later : Plain
    pub done : List Subthread
    pub stands : StandsPast plan later course
    pub rest_is : rest plan x ≡ done ++ rest plan later
    pub last_is : last plan x ≡ last plan later
    pub some : 0 < length done
    pub issued : later.table.issued ≡ x.table.issued + length done
    pub wrote : Appends written written' (printed (lines_of done))
    pub posts : posted ≡ before ++ firsts_from x.table.issued (length done)
