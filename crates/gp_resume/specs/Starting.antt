-- From what a run may go on, and by which crew.
use Rattle.std.specs.Prelude.{◌≤◌, ℕ, List, length}
use Rattle.gp_base.specs.declared.limits.TheConstants.{MOST_FILE_BYTES}
use Rattle.subthread.specs.declared.task.Work.{Work}
use Rattle.subthread.specs.declared.task.Task.{Task}
use Rattle.subthread.specs.Tasks.{Suits}
use Rattle.crew.specs.Unposted.{IsUnposted}
use Rattle.gp_resume.specs.declared.course.Opening.{Opening}

-- A run of this work may begin from its opening, and go on from a log with these bytes, by the crew, to which nothing was posted.
pub record MayBegin {C : Type 0} (ready : C → Type 0) (work_of : C → Work) (out : C → List Task) (posted : C → List (ℕ × ℕ))
    (work : Work) (opening : Opening) (log : List ℕ) (crew : C) : Type 0 where
  pub suits : Suits work opening.layout opening.inputs opening.limits
  pub short : length log ≤ MOST_FILE_BYTES
  pub unposted : IsUnposted ready work_of out posted crew work
