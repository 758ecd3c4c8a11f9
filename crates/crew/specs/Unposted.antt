-- Crews to which nothing was posted.
use Rattle.std.specs.Prelude.{◌≡◌, ℕ, List, []}
use Rattle.subthread.specs.declared.task.Task.{Task}
use Rattle.subthread.specs.declared.task.Work.{Work}

-- the crew can be called, runs tasks of the given work, and none was posted to it; the functions are what its trait tells of it
pub record IsUnposted {Crew : Type 0} (is_ready : Crew → Type 0) (work_of : Crew → Work) (out_of : Crew → List Task)
    (posted_to : Crew → List (ℕ × ℕ)) (crew : Crew) (given : Work) : Type 0 where
  pub ready : is_ready crew
  pub work : work_of crew ≡ given
  pub none_out : out_of crew ≡ []
  pub none_posted : posted_to crew ≡ []
