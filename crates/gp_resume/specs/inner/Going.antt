-- How a run goes on from where a course stands, to its end.
use Rattle.std.specs.Prelude.{◌≡◌, ℕ, suc, ◌+◌, ◌-◌, List, ◌++◌, length, map, Option}
use Rattle.std.specs.Io.KnownBytes.{Appends}
use Rattle.gp_base.specs.declared.ending.End.{End}
use Rattle.task_ast.specs.meaning.Repeat.{steps, state_after}
use Rattle.task_ast.specs.meaning.Table.{numbers}
use Rattle.task_ast.specs.meaning.Plain.{Subthread, ending_of}
use Rattle.task_ast.specs.Plain.{Plain, move}
use Rattle.record_store.specs.Stored.{state_of}
use Rattle.restart_log.specs.meaning.Lines.{printed}
use Rattle.retirement_log.specs.meaning.Rows.{Retirement}
use Rattle.subthread.specs.Tasks.{program_in}
use Rattle.gp_resume.specs.declared.course.ResumePlan.{ResumePlan}
use Rattle.gp_resume.specs.declared.course.Course.{Course}
use Rattle.gp_resume.specs.declared.log.Logged.{Logged}
use Rattle.gp_resume.specs.inner.Course.{IsHome, StandsAt}
use Rattle.gp_resume.specs.inner.Flights.{StandsPast}
use Rattle.gp_resume.specs.meaning.Fitting.{resumed_at}
use Rattle.gp_resume.specs.meaning.Reading.{BeginsWith, IsLogOf}
use Rattle.gp_resume.specs.meaning.Resumed.{lines_of, bytes_before}

module _ (plan : ResumePlan) where
  -- how many steps a run makes at most from here; one more than its limit leaves finds the end
  abbrev pub left : Plain → ℕ
  left x = suc plan.limits.subthreads - x.table.issued

  -- the subthreads that are still to come
  abbrev pub rest : Plain → List Subthread
  rest x = steps (move (program_in plan.work.now) plan.inputs.value plan.limits) (left x) x

  -- where the run has ended
  abbrev pub last : Plain → Plain
  last x = state_after (move (program_in plan.work.now) plan.inputs.value plan.limits) (left x) x

  -- it went on from x to this end, with the data and the count of that
  pub record WentOn (x : Plain) (end : End) (course : Course) : Type 0 where
    pub end_is : end ≡ ending_of (move (program_in plan.work.now) plan.inputs.value plan.limits (last x))
    pub state : state_of course.store ≡ (last x).state
    pub home : IsHome plan (last x).table course.store
    pub issued : course.issued ≡ x.table.issued + length (rest x)

-- the first attempts of so many positions, from one on
abbrev pub firsts_from : (position count : ℕ) → List (ℕ × ℕ)
firsts_from p n = map (λ (q : ℕ). (q, 0)) (numbers p n)

-- The run went on from x to where the course stands, by these subthreads, whose lines were written and whose first attempts were posted.
pub record Went (plan : ResumePlan) (x : Plain) (before written : Option (List ℕ)) (posted : List (ℕ × ℕ)) (course : Course) : Type 0 where
  pub now : Plain
  pub done : List Subthread
  pub stands : StandsPast plan now course
  pub rest_is : rest plan x ≡ done ++ rest plan now
  pub last_is : last plan x ≡ last plan now
  pub issued : now.table.issued ≡ x.table.issued + length done
  pub wrote : Appends before written (printed (lines_of done))
  pub posts : posted ≡ firsts_from x.table.issued (length done)

-- So many rows stand in the log before the rest, and fit, with so many bytes of the text; the course stands where they leave the run.
pub record HasReplayed (plan : ResumePlan) (log rest : List ℕ) (logged : Logged) (course : Course) : Type 0 where
  pub rows : List Retirement
  pub begins : BeginsWith (program_in plan.work.now) plan.inputs.value plan.limits log rows rest
  pub count : logged.rows ≡ length rows
  pub bytes : logged.bytes ≡ bytes_before rows
  pub stands : StandsAt plan (resumed_at (program_in plan.work.now) plan.inputs.value plan.limits rows) course

-- The log has rows, which fit: these are so many, with so many bytes of the text, and the course stands where they leave the run.
pub record Replays (plan : ResumePlan) (log : List ℕ) (logged : Logged) (course : Course) : Type 0 where
  pub rows : List Retirement
  pub is_log : IsLogOf (program_in plan.work.now) plan.inputs.value plan.limits log rows
  pub count : logged.rows ≡ length rows
  pub bytes : logged.bytes ≡ bytes_before rows
  pub stands : StandsAt plan (resumed_at (program_in plan.work.now) plan.inputs.value plan.limits rows) course
