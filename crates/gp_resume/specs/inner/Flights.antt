-- Subthreads that began beside one another. Each is out with a crew before what those before it leave is in the data.
use Rattle.std.specs.Prelude.{◌≡◌, ◌≢◌, ◌⊎◌, ⊤, ℕ, pos, ◌≤◌, ◌<◌, Bool, false, ◌||◌, List, [], ◌∷◌, ◌++◌, length, map, Contains, Some, None, slice_get, unwrap_or}
use Rattle.task_ast.specs.Table.{owner_in, Table, next_of}
use Rattle.task_ast.specs.declared.sync.Next.{Next}
use Rattle.task_ast.specs.declared.sync.SyncOp.TheVariants as sync
use Rattle.task_ast.specs.meaning.Control.{Point}
use Rattle.task_ast.specs.meaning.Names.{records_of, locks_of, cells_in}
use Rattle.task_ast.specs.meaning.State.{State}
use Rattle.task_ast.specs.meaning.Layout.{layout}
use Rattle.task_ast.specs.SyncOps.{joined_by}
use Rattle.task_ast.specs.Under.{KeepsToLocks}
use Rattle.task_ast.specs.Reached.{Reached}
use Rattle.task_ast.specs.meaning.Repeat.{Goes}
use Rattle.task_ast.specs.laws.Less.{KnowsLess}
use Rattle.task_ast.specs.laws.Standing.{PassesTo}
use Rattle.task_ast.specs.meaning.Plain.{Subthread}
use Rattle.task_ast.specs.Plain.{Plain, Machine, tree_machine, move, point_by}
use Rattle.task_ast.specs.Position.{from_in, body_by}
use Rattle.dependence.specs.meaning.Dependents.{is_member}
use Rattle.task_code.specs.Reading.{Place}
use Rattle.task_code.specs.Relation.{Rests}
use Rattle.record_store.specs.Given.{given_of}
use Rattle.record_store.specs.Stored.{Stored, state_of}
use Rattle.subthread.specs.declared.task.Work.{Work}
use Rattle.subthread.specs.declared.task.Task.{Task}
use Rattle.subthread.specs.Tasks.{machine_of, under_of, program_in as program_of}
use Rattle.gp_resume.specs.declared.course.ResumePlan.{ResumePlan}
use Rattle.gp_resume.specs.declared.course.Begun.{Begun}
use Rattle.gp_resume.specs.declared.course.Course.{Course}
use Rattle.gp_resume.specs.inner.Course.{spot_place, IsSound, AreNumbered, Stands}
use Rattle.gp_resume.specs.inner.Turning.{KeepsTurning}

-- a subthread that is out, and the run before and after it
pub record Flown : Type 0 where
  pub begun : Begun
  pub before : Plain
  pub subthread : Subthread
  pub after : Plain

-- each of a list is so
abbrev pub Each : {A : Type 0} → (A → Type 0) → List A → Type 0
Each P [] = ⊤
Each P (x ∷ xs) = P x × Each P xs

-- one of them is of this thread
abbrev pub HasThread : List Flown → (thread : ℕ) → Type 0
HasThread [] t = ⊥
HasThread (f ∷ fs) t = (f.subthread.thread ≡ t) ⊎ HasThread fs t

-- whether one of them holds the lock
abbrev pub is_lent : List Flown → (lock : ℕ) → Bool
is_lent [] l = false
is_lent (f ∷ fs) l = is_member l f.subthread.held || is_lent fs l

-- nothing that the earlier one leaves is given to the later one
pub record IsFree (early late : Subthread) : Type 0 where
  pub thread : late.thread ≢ early.thread
  pub child : (c : ℕ) → early.child ≡ Some c → c ≢ late.thread
  pub joined : (h : ℕ) → joined_by late.begins.sync ≡ Some h → (h ≢ early.thread) × ((c : ℕ) → early.child ≡ Some c → c ≢ h)
  pub locks : (l : ℕ) → Contains early.held l → ¬ Contains late.held l

-- so of each two of them
abbrev pub AllFree : List Flown → Type 0
AllFree [] = ⊤
AllFree (f ∷ fs) = Each (λ g. IsFree f.subthread g.subthread) fs × AllFree fs

-- the task of a subthread that begins, which is given what it finds in a state
abbrev pub task_from : Work → State → Begun → Task
task_from work state begun =
    record {
      pos = begun.pos;
      thread = begun.thread;
      attempt = 0;
      begins = begun.begins;
      at = begun.spot.at;
      ctl = begun.spot.ctl;
      child = begun.child;
      given = given_of (under_of work) state begun.thread (joined_by begun.begins.sync) begun.held;
      held = begun.held;
      mask = pos 0;
    }

-- the start of a thread that was forked
abbrev pub start_next : Next
start_next = record { sync = sync.Start; line = 0 }

module _ (plan : ResumePlan) where
  abbrev pub tree : Machine Point
  tree = tree_machine (program_of plan.work.now) plan.inputs.value plan.limits

  -- the run goes on with it, and it begins so
  pub record IsFlown (f : Flown) : Type 0 where
    pub moves : move (program_of plan.work.now) plan.inputs.value plan.limits f.before ≡ Goes f.subthread f.after
    pub sound : IsSound plan f.before
    pub later : IsSound plan f.after
    pub keeps : KeepsToLocks (layout (program_of plan.work.now).heads).under f.subthread
    pub pos : f.begun.pos ≡ f.before.table.issued
    pub thread : f.begun.thread ≡ f.subthread.thread
    pub begins : f.begun.begins ≡ f.subthread.begins
    pub child : f.begun.child ≡ f.subthread.child
    pub held : f.begun.held ≡ f.subthread.held
    pub me : f.begun.spot.me ≡ f.subthread.thread
    pub from : Rests (program_of plan.work.now) f.subthread.begins.sync
        (from_in (program_of plan.work.now) plan.inputs.value plan.limits f.before f.subthread.begins.sync f.subthread.thread)
        (spot_place f.begun.spot)

  -- the run goes from x to y by these
  abbrev pub Chain : Plain → List Flown → Plain → Type 0
  Chain x [] y = x ≡ y
  Chain x (f ∷ fs) y = (f.before ≡ x) × IsFlown f × Chain f.after fs y

  -- where the run stands at y, the table doesn't know what comes next in the thread of one that is out, whose locks are still its own,
  -- and whose child, which is none of the first so many threads, has not begun
  pub record IsOut (threads : ℕ) (y : Plain) (table : Table) (f : Flown) : Type 0 where
    pub there : f.subthread.thread < length table.seats
    pub unknown : next_of table f.subthread.thread ≡ None
    pub next : next_of y.table f.subthread.thread ≡ Some (body_by tree f.before f.subthread).next
    pub point : point_by tree y f.subthread.thread ≡ (body_by tree f.before f.subthread).at
    pub owns : (l : ℕ) → Contains f.subthread.held l → owner_in y.table.owners l ≡ Some f.subthread.thread
    pub child : (c : ℕ) → f.subthread.child ≡ Some c
        → (threads ≤ c) × (c < length y.table.seats) × (next_of y.table c ≡ Some start_next)

  -- the table is that of the run at y after some passes, but for what comes next in the threads of those that are out
  pub record KnowsBut (threads : ℕ) (y : Plain) (fs : List Flown) (table : Table) : Type 0 where
    pub whole : Table
    pub passed : PassesTo y.table whole
    pub less : KnowsLess table whole
    pub reached : Reached table
    pub known : (u : ℕ) → u < length table.seats → next_of table u ≡ None → HasThread fs u
    pub out : Each (IsOut threads y table) fs

  -- each thread of which it is known what comes next rests in the code where it does in the run
  abbrev pub RestsAlike : Plain → Table → List Place → Type 0
  RestsAlike y table places =
      (u : ℕ) (next : Next) → next_of table u ≡ Some next
      → Rests (program_of plan.work.now) next.sync (point_by tree y u) (unwrap_or (slice_get places u) ((machine_of plan.work.now).starts 0 u []))

  -- the store has registers for the threads, and the cells, the layout and the locks of the run, of which those are away that are held
  pub record IsLending (y : Plain) (fs : List Flown) (store : Stored) : Type 0 where
    pub threads : length y.table.seats ≤ length store.threads
    pub cells : length store.cells ≡ cells_in (records_of (program_of plan.work.now).heads)
    pub under : store.under ≡ under_of plan.work.now
    pub locks : length store.away ≡ cells_in (locks_of (program_of plan.work.now).heads)
    pub away : (l : ℕ) → l < length store.away → slice_get store.away l ≡ Some (is_lent fs l)

  -- these are out, with which the run goes from x to y: the course has the data of x, and all else as at y
  pub record Flight (threads : ℕ) (x y : Plain) (fs : List Flown) (course : Course) : Type 0 where
    pub chain : Chain x fs y
    pub many : threads ≤ length y.table.seats
    pub sound : IsSound plan y
    pub free : AllFree fs
    pub table : KnowsBut threads y fs course.ring.table
    pub spots : length course.spots.items ≡ length course.ring.table.seats
    pub rests : RestsAlike y course.ring.table (map spot_place course.spots.items)
    pub numbered : AreNumbered plan course.spots.items
    pub state : state_of course.store ≡ x.state
    pub lending : IsLending y fs course.store
    pub issued : course.issued ≡ y.table.issued

  -- one more begins beside those that are out, with which the run goes from x to y: it was issued, and no cells are lent to it yet
  pub record Joins (threads : ℕ) (x : Plain) (fs : List Flown) (f : Flown) (course : Course) : Type 0 where
    pub chain : Chain x fs f.before
    pub many : threads ≤ length f.after.table.seats
    pub flown : IsFlown f
    pub free : AllFree fs
    pub free_of : Each (λ (e : Flown). IsFree e.subthread f.subthread) fs
    pub table : KnowsBut threads f.after (fs ++ f ∷ []) course.ring.table
    pub spots : length course.spots.items ≡ length course.ring.table.seats
    pub rests : RestsAlike f.after course.ring.table (map spot_place course.spots.items)
    pub numbered : AreNumbered plan course.spots.items
    pub state : state_of course.store ≡ x.state
    pub lending : IsLending f.after fs course.store
    pub issued : course.issued ≡ f.after.table.issued

  -- a course stood where the run does, and some turns have passed since
  pub record StandsPast (x : Plain) (course : Course) : Type 0 where
    pub before : Course
    pub stands : Stands plan x before
    pub kept : KeepsTurning before course
