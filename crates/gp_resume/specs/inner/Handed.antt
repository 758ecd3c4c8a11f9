-- The task of a subthread that begins, and what its run leaves of the course.
use Rattle.std.specs.Prelude.{◌≡◌, ◌<◌, pos, false, [], length, map, slice_set}
use Rattle.task_ast.specs.meaning.State.{RegistersOf}
use Rattle.task_ast.specs.meaning.Effect.{after}
use Rattle.task_ast.specs.Table.{learning}
use Rattle.task_ast.specs.SyncOps.{joined_by}
use Rattle.record_store.specs.Given.{joined_value}
use Rattle.record_store.specs.Lent.{MayComeHome, lock_in, marked, whole_effect}
use Rattle.record_store.specs.Stored.{Stored, state_of, SameShape, FitsChild}
use Rattle.subthread.specs.declared.task.Task.{Task}
use Rattle.subthread.specs.declared.task.Done.{Done}
use Rattle.subthread.specs.Lending.{lent_by}
use Rattle.gp_resume.specs.declared.course.Begun.{Begun}
use Rattle.gp_resume.specs.declared.course.Course.{Course}

-- it is given registers as the store has them, and no cells yet; no fault strikes it
abbrev pub bare_task : Stored → Begun → Task
bare_task store begun =
    record {
      pos = begun.pos;
      thread = begun.thread;
      attempt = 0;
      begins = begun.begins;
      at = begun.spot.at;
      ctl = begun.spot.ctl;
      child = begun.child;
      given = record {
        regs = state_of store (RegistersOf begun.thread);
        joined = joined_value (state_of store) (joined_by begun.begins.sync);
        bundles = [];
      };
      held = begun.held;
      mask = pos 0;
    }

-- it is given what the store gives
abbrev pub task_begun : Stored → Begun → Task
task_begun store begun = lent_by store (bare_task store begun)

-- what a run leaves may be taken: the cells of its locks may come home, and its threads are there
pub record MayTake (done : Done) (course : Course) : Type 0 where
  pub comes : MayComeHome course.store done.task.given.bundles done.old
  pub thread : done.effect.thread < length course.store.threads
  pub child : FitsChild (length course.store.threads) done.effect.thread done.effect.child
  pub seats : done.task.thread < length course.ring.table.seats
  pub spots : done.task.thread < length course.spots.items

-- the cells of a run's locks came home, its effect is applied, and its thread stands where the run left it
pub record IsLeft (done : Done) (before later : Course) : Type 0 where
  pub state : state_of later.store
      ≡ after (whole_effect before.store.under done.task.given.bundles done.old done.effect) (state_of before.store)
  pub shape : SameShape before.store later.store
  pub away : later.store.away ≡ marked (map lock_in done.task.given.bundles) false before.store.away
  pub table : later.ring.table ≡ learning before.ring.table done.task.thread done.next
  pub spots : later.spots.items
      ≡ slice_set before.spots.items done.task.thread (record { at = done.at; ctl = done.ctl; me = done.task.thread })
  pub issued : later.issued ≡ before.issued
