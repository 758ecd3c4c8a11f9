-- How a course stands to the plain run that goes on from rows.
use Rattle.std.specs.Prelude.{◌≡◌, ℕ, ◌≤◌, ◌<◌, List, [], ◌∷◌, length, map, Some, slice_get, slice_set}
use Rattle.gp_base.specs.declared.ending.End.{End}
use Rattle.task_ast.specs.meaning.Names.{records_of, locks_of, cells_in}
use Rattle.task_ast.specs.meaning.State.{State}
use Rattle.task_ast.specs.Table.{Table, learning}
use Rattle.task_ast.specs.meaning.Layout.{layout}
use Rattle.task_ast.specs.Under.{KeepsToLocks}
use Rattle.task_ast.specs.Reached.{Reached}
use Rattle.task_ast.specs.meaning.Repeat.{Goes, Ends}
use Rattle.task_ast.specs.laws.Ends.{IsWhole}
use Rattle.task_ast.specs.laws.Following.{InStep}
use Rattle.task_ast.specs.laws.Runs.{plain_for, IsInside}
use Rattle.task_ast.specs.meaning.Tree.{Program}
use Rattle.task_ast.specs.meaning.Plain.{Subthread, main_number}
use Rattle.task_ast.specs.meaning.Run.{Run}
use Rattle.task_ast.specs.Plain.{Plain, PlainOf, tree_machine, move}
use Rattle.task_ast.specs.Position.{from_in, body_by}
use Rattle.lock_checker.specs.Soundness.{LocksStand}
use Rattle.task_code.specs.Reading.{Place, start_place}
use Rattle.task_code.specs.Relation.{Rests}
use Rattle.record_store.specs.Stored.{Stored, state_of, IsAllHome}
use Rattle.subthread.specs.Tasks.{Suits, machine_of, program_in as program_of}
use Rattle.gp_resume.specs.declared.course.ResumePlan.{ResumePlan}
use Rattle.gp_resume.specs.declared.course.Spot.{Spot}
use Rattle.gp_resume.specs.declared.course.Course.{Course}
use Rattle.gp_resume.specs.declared.course.Begun.{Begun}
use Rattle.gp_resume.specs.declared.course.Step.{Step}
use Rattle.gp_resume.specs.declared.course.Step.TheVariants as step

-- where a spot is in the code
abbrev pub spot_place : Spot → Place
spot_place spot = record { at = spot.at; ctl = spot.ctl; me = spot.me }

-- the plain run on code that a course is
abbrev pub run_in : Course → PlainOf Place
run_in course = record { table = course.ring.table; points = map spot_place course.spots.items; state = state_of course.store }

-- one spot, at which `main` starts as thread 0
pub record StartsAlone (program : Program) (spots : List Spot) : Type 0 where
  pub spot : Spot
  pub alone : spots ≡ spot ∷ []
  pub starts : spot_place spot ≡ start_place program (main_number program) 0 []

-- work, layout, inputs and limits suit one another
abbrev pub IsSuited : ResumePlan → Type 0
IsSuited plan = Suits plan.work.now (layout (program_of plan.work.now).heads) plan.inputs.value plan.limits

module _ (plan : ResumePlan) where
  -- a run on the tree and one on the code are one
  abbrev pub IsSameRun : Plain → PlainOf Place → Type 0
  IsSameRun x y =
      InStep (Rests (program_of plan.work.now)) (λ left right. left ≡ right)
      (tree_machine (program_of plan.work.now) plan.inputs.value plan.limits) (machine_of plan.work.now) x y

  -- the store has registers for the threads of the table, the cells, the layout and the locks of the run, and all cells are at home
  pub record IsHome (table : Table) (store : Stored) : Type 0 where
    pub threads : length table.seats ≤ length store.threads
    pub cells : length store.cells ≡ cells_in (records_of (program_of plan.work.now).heads)
    pub under : store.under ≡ (layout (program_of plan.work.now).heads).under
    pub locks : length store.away ≡ cells_in (locks_of (program_of plan.work.now).heads)
    pub home : IsAllHome store

  -- a run that goes on from its opening by turns: its locks stand, its table is one that turns lead to, of which all is known, and has the
  -- limit
  pub record IsSound (x : Plain) : Type 0 where
    pub locks : LocksStand (program_of plan.work.now) plan.inputs.value plan.limits x
    pub reached : Reached x.table
    pub whole : IsWhole x.table
    pub limit : x.table.limit ≡ plan.limits.subthreads

  -- each spot has the number of its thread
  abbrev pub AreNumbered : List Spot → Type 0
  AreNumbered spots = (t : ℕ) (spot : Spot) → slice_get spots t ≡ Some spot → spot.me ≡ t

  -- the course stands where the run does
  pub record Stands (x : Plain) (course : Course) : Type 0 where
    pub same : IsSameRun x (run_in course)
    pub sound : IsSound x
    pub home : IsHome course.ring.table course.store
    pub numbered : AreNumbered course.spots.items
    pub issued : course.issued ≡ x.table.issued

  -- the course stands where this run on the tree does
  pub record StandsAt (x : Run) (course : Course) : Type 0 where
    pub inside : IsInside x
    pub stands : Stands (plain_for (program_of plan.work.now) plan.limits x) course

  -- It stood where the run x does, and this subthread begins: with it the run comes to y. The data are still those before it. Once its
  -- thread is left where the body of the subthread leads, the course stands where y does, but for the data.
  pub record Begins (x : Plain) (s : Subthread) (y : Plain) (begun : Begun) (course : Course) : Type 0 where
    pub moves : move (program_of plan.work.now) plan.inputs.value plan.limits x ≡ Goes s y
    pub before : IsSound x
    pub after : IsSound y
    pub keeps : KeepsToLocks (layout (program_of plan.work.now).heads).under s
    pub pos : begun.pos ≡ x.table.issued
    pub thread : begun.thread ≡ s.thread
    pub begins : begun.begins ≡ s.begins
    pub child : begun.child ≡ s.child
    pub held : begun.held ≡ s.held
    pub me : begun.spot.me ≡ s.thread
    pub from : Rests (program_of plan.work.now) s.begins.sync
        (from_in (program_of plan.work.now) plan.inputs.value plan.limits x s.begins.sync s.thread) (spot_place begun.spot)
    pub state : state_of course.store ≡ x.state
    pub home : IsHome y.table course.store
    pub numbered : AreNumbered course.spots.items
    pub seats : s.thread < length course.ring.table.seats
    pub spots : length course.spots.items ≡ length course.ring.table.seats
    pub issued : course.issued ≡ y.table.issued
    pub leads : (place : Place) (state : State)
        → Rests (program_of plan.work.now) (body_by (tree_machine (program_of plan.work.now) plan.inputs.value plan.limits) x s).next.sync
        (body_by (tree_machine (program_of plan.work.now) plan.inputs.value plan.limits) x s).at place
        → IsSameRun (record y { state = state })
        (record {
          table =
              learning course.ring.table s.thread (body_by
              (tree_machine (program_of plan.work.now) plan.inputs.value plan.limits) x s).next;
          points = slice_set (map spot_place course.spots.items) s.thread place;
          state = state;
        })

  -- It stood where the run x does, which has ended so; the data are as they were.
  pub record Ended (x : Plain) (end : End) (course : Course) : Type 0 where
    pub moves : move (program_of plan.work.now) plan.inputs.value plan.limits x ≡ Ends end
    pub sound : IsSound x
    pub state : state_of course.store ≡ x.state
    pub home : IsHome x.table course.store
    pub issued : course.issued ≡ x.table.issued

  -- what comes next, where the course stood where the run x does
  abbrev pub Gives : Plain → Step → Course → Type 0
  Gives x (step.Goes begun) course = (s : Subthread) × ((y : Plain) × Begins x s y begun course)
  Gives x (step.Ends end) course = Ended x end course

  -- some subthread begins so, of some run
  pub record IsBegun (begun : Begun) (course : Course) : Type 0 where
    pub before : Plain
    pub subthread : Subthread
    pub after : Plain
    pub begins : Begins before subthread after begun course
