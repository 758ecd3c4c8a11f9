-- The plain run, position by position: what a step of it leaves, and which runs have the same control.
use Rattle.std.specs.Prelude.{◌≡◌, ℕ, ◌<◌, ℤ, pos, List, [], ◌++◌, map, Some, length, slice_get}
use Rattle.gp_base.specs.declared.limits.Limits.{Limits}
use Rattle.gp_base.specs.declared.feed.Inputs.{Inputs}
use Rattle.task_ast.specs.declared.sync.SyncOp.{SyncOp}
use Rattle.task_ast.specs.declared.sync.SyncOp.TheVariants as sync
use Rattle.task_ast.specs.declared.sync.Next.{Next}
use Rattle.task_ast.specs.meaning.Tree.{Program}
use Rattle.task_ast.specs.meaning.Body.{Body}
use Rattle.task_ast.specs.meaning.Control.{Point}
use Rattle.task_ast.specs.meaning.Effect.{effect, after}
use Rattle.task_ast.specs.Table.{next_of, owned}
use Rattle.task_ast.specs.meaning.Turn.{owners_after, child_of}
use Rattle.task_ast.specs.laws.Threads.{MayBegin, with_child}
use Rattle.task_ast.specs.meaning.State.{RegistersOf, number_at}
use Rattle.task_ast.specs.meaning.Plain.{Subthread}
use Rattle.task_ast.specs.Plain.{PlainOf, Machine, point_by, from_by, before_by, order_by, Plain, tree_machine, order, end}

module _ (program : Program) (inputs : Inputs) (limits : Limits) where
  -- the plain run before the subthread at a position, or at its end where that comes before
  abbrev pub before : (position : ℕ) → Plain
  before p = before_by (tree_machine program inputs limits) program inputs limits p

-- the body with which a subthread goes on, where its thread stands so
abbrev pub body_by : {P : Type 0} → Machine P → PlainOf P → Subthread → Body P
body_by machine before s = machine.bodies (machine.begins s.begins.sync s.child (from_by machine before s.begins.sync s.thread))

-- in a run over any kind of points: the thread's last subthread is that of position q, and the body of that subthread leads to the
-- thread's next synchronisation and to its point
pub record LeftBy {P : Type 0} (machine : Machine P) (program : Program) (inputs : Inputs) (limits : Limits) (x : PlainOf P)
    (t q : ℕ) : Type 0 where
  pub subthread : Subthread
  pub position : slice_get (order_by machine program inputs limits) q ≡ Some subthread
  pub thread : subthread.thread ≡ t
  pub next : next_of x.table t ≡ Some (body_by machine (before_by machine program inputs limits q) subthread).next
  pub point : point_by machine x t ≡ (body_by machine (before_by machine program inputs limits q) subthread).at
  pub earlier : q < x.table.issued

-- a run over any kind of points goes from x to y by this subthread
pub record IsStep {P : Type 0} (machine : Machine P) (x : PlainOf P) (s : Subthread) (y : PlainOf P) : Type 0 where
  pub begins : next_of x.table s.thread ≡ Some s.begins
  pub may : MayBegin x.table s.begins.sync
  pub child : s.child ≡ child_of s.begins.sync (length x.table.seats)
  pub actions : s.actions ≡ machine.first s.begins.sync (from_by machine x s.begins.sync s.thread) ++ (body_by machine x s).actions
  pub lines : s.lines ≡ (effect s.thread s.begins.sync s.child s.actions x.state).prints
  pub state : y.state ≡ after (effect s.thread s.begins.sync s.child s.actions x.state) x.state
  pub owners : y.table.owners ≡ owners_after s.begins.sync s.thread x.table.owners
  pub held : s.held ≡ owned y.table s.thread
  pub threads : length y.table.seats ≡ with_child s.child (length x.table.seats)
  pub next : next_of y.table s.thread ≡ Some (body_by machine x s).next
  pub point : point_by machine y s.thread ≡ (body_by machine x s).at
  pub others : (t : ℕ) → (t ≡ s.thread → ⊥) → t < length x.table.seats
      → (next_of y.table t ≡ next_of x.table t) × (point_by machine y t ≡ point_by machine x t)
  pub forked : (task : ℕ) (arguments : List ℤ) → s.begins.sync ≡ sync.Fork task arguments
      → (next_of y.table (length x.table.seats) ≡ Some (record { sync = sync.Start; line = 0 }))
      × (point_by machine y (length x.table.seats) ≡ machine.starts task (length x.table.seats) arguments)

-- the subthread's thread and the thread that it joins are among so many threads, and its child is the next one
pub record IsForked (threads : ℕ) (s : Subthread) : Type 0 where
  pub thread : s.thread < threads
  pub joined : (h : ℤ) → s.begins.sync ≡ sync.Join h → (k : ℕ) × (h ≡ pos k) × (k < threads)
  pub child : (c : ℕ) → s.child ≡ Some c → c ≡ threads

module _ (program : Program) (inputs : Inputs) (limits : Limits) where
  -- how many threads there are before a position
  abbrev pub threads_before : (position : ℕ) → ℕ
  threads_before p = length (before program inputs limits p).table.seats

  -- where a thread stands
  abbrev pub point_in : Plain → (thread : ℕ) → Point
  point_in x t = point_by (tree_machine program inputs limits) x t

  -- where a thread begins so: a settle has set its control variable
  abbrev pub from_in : Plain → SyncOp → (thread : ℕ) → Point
  from_in x op t = from_by (tree_machine program inputs limits) x op t

  -- the body of the subthread at a position
  abbrev pub body_at : (position : ℕ) → Subthread → Body Point
  body_at p s = body_by (tree_machine program inputs limits) (before program inputs limits p) s

-- a subthread but for its lines
abbrev pub plan_of : Subthread → Subthread
plan_of s = record s { lines = [] }

-- where a settle begins a subthread of the one run, both find the same value in its register
abbrev pub SettlesAlike : (program : Program) (inputs other : Inputs) (limits : Limits) → Type 0
SettlesAlike program inputs other limits =
    (p : ℕ) (s : Subthread) (register control : ℕ) → slice_get (order program inputs limits) p ≡ Some s
    → s.begins.sync ≡ sync.Settle register control
    → number_at ((before program inputs limits p).state (RegistersOf s.thread)) register
    ≡ number_at ((before program other limits p).state (RegistersOf s.thread)) register

-- two runs of a program differ in the data alone: the same subthreads but for their lines, the same end, and before each position
-- the same table and the same points
pub record IsSameControl (program : Program) (inputs other : Inputs) (limits : Limits) : Type 0 where
  pub order : map plan_of (order program inputs limits) ≡ map plan_of (order program other limits)
  pub end : end program inputs limits ≡ end program other limits
  pub tables : (p : ℕ) → (before program inputs limits p).table ≡ (before program other limits p).table
  pub points : (p t : ℕ) (next : Next) → next_of (before program inputs limits p).table t ≡ Some next
      → point_in program inputs limits (before program inputs limits p) t ≡ point_in program other limits (before program other limits p) t
