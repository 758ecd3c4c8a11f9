-- The tasks that are out.
use Rattle.std.specs.Prelude.{◌≡◌, ℕ, List, Contains}
use Rattle.task_ast.specs.meaning.Plain.{Subthread}
use Rattle.dependence.specs.Restarts.{mask_of}
use Rattle.dependence.specs.Standing.{present}
use Rattle.subthread.specs.declared.task.Task.{Task}
use Rattle.subthread.specs.Joining.{IsTaskOf as IsTaskAt, IsGiven}
use Rattle.crew.specs.Standing.{CrewStands as Tied}
use Rattle.whole_run.specs.View.{Batch, View, now, state_in}

-- the task is an attempt of its position's subthread, with the mask of that attempt
pub record IsTaskOf (batch : Batch) (task : Task) : Type 0 where
  pub subthread : Subthread
  pub is_of : IsTaskAt batch.work batch.inputs batch.limits task.pos subthread task
  pub mask : task.mask ≡ mask_of batch.faults task.pos task.attempt

-- the task was posted and not taken; while its attempt is the present one, it was given what the store gives
pub record TaskStands (view : View) (task : Task) : Type 0 where
  pub is_task : IsTaskOf view.batch task
  pub posted : Contains (now view).posted (task.pos, task.attempt)
  pub untaken : ¬ Contains (now view).taken (task.pos, task.attempt)
  pub given : task.attempt ≡ present (now view) task.pos → IsGiven view.batch.work view.batch.inputs view.batch.limits task (state_in view)

-- the crew and the engine agree: all posts are the crew's, and what is out with it is what was posted and not taken
pub record CrewStands (view : View) (posted : List (ℕ × ℕ)) (out : List Task) : Type 0 where
  pub posted_are : posted ≡ (now view).posted
  pub tied : Tied (TaskStands view) (now view).posted (now view).taken out
