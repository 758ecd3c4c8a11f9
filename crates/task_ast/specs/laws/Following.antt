-- One kind of points follows another, as flat code follows the tree: then bodies agree, and so do whole runs.
use Rattle.std.specs.Prelude.{◌≡◌, ◌⊎◌, ℕ, ℤ, List, Option, Some, length}
use Rattle.gp_base.specs.declared.limits.Limits.{Limits}
use Rattle.gp_base.specs.declared.feed.Inputs.{Inputs}
use Rattle.task_ast.specs.declared.sync.SyncOp.{SyncOp}
use Rattle.task_ast.specs.declared.sync.SyncOp.TheVariants as sync
use Rattle.task_ast.specs.declared.sync.Next.{Next}
use Rattle.task_ast.specs.meaning.Action.{Action}
use Rattle.task_ast.specs.meaning.Body.{Step, Silent, Iteration, Act, Stop, Body}
use Rattle.task_ast.specs.meaning.Tree.{Program}
use Rattle.task_ast.specs.meaning.State.{State}
use Rattle.task_ast.specs.Table.{next_of}
use Rattle.task_ast.specs.Plain.{PlainOf, Machine, point_by, order_by, before_by, last_by, end_by}

module _ {P Q : Type 0} (Stands : P → Q → Type 0) where
  -- the two steps do the same
  pub data Matches : Step P → Step Q → Type 0 where
    both_silent : {p : P} {q : Q} → Stands p q → Matches (Silent p) (Silent q)
    both_turn : {p : P} {q : Q} → Stands p q → Matches (Iteration p) (Iteration q)
    both_act : {p : P} {q : Q} {a : Action} → Stands p q → Matches (Act a p) (Act a q)
    both_stop : {next : Next} → Matches (Stop next) (Stop next)

  -- each step of the second kind is silent and alone, as a jump, or does what the step of the first kind does
  abbrev pub IsFollowing : (P → Step P) → (Q → Step Q) → Type 0
  IsFollowing of_p of_q = (p : P) (q : Q) → Stands p q → ((r : Q) × (of_q q ≡ Silent r) × Stands p r) ⊎ Matches (of_p p) (of_q q)

  -- the two bodies are equal
  pub record Agrees (a : Body P) (b : Body Q) : Type 0 where
    pub actions : a.actions ≡ b.actions
    pub next : a.next ≡ b.next
    pub at : Stands a.at b.at

-- `Rests op p q`: the points of the two kinds stand for each other, at rest before the synchronisation op
module _ {P Q : Type 0} (Rests : SyncOp → P → Q → Type 0) where
  -- the two machines do the same: from points at rest a subthread has the same actions and comes to the same next synchronisation, at
  -- rest before it; tasks start at rest; and before a settle a control variable may be set
  pub record Follows (m : Machine P) (n : Machine Q) : Type 0 where
    pub first : (op : SyncOp) (p : P) (q : Q) → Rests op p q → m.first op p ≡ n.first op q
    pub bodies : (op : SyncOp) (child : Option ℕ) (p : P) (q : Q) → Rests op p q
        → Agrees (Rests (m.bodies (m.begins op child p)).next.sync) (m.bodies (m.begins op child p)) (n.bodies (n.begins op child q))
    pub starts : (task thread : ℕ) (arguments : List ℤ) → Rests sync.Start (m.starts task thread arguments) (n.starts task thread arguments)
    pub sets : (register control : ℕ) (v : ℤ) (p : P) (q : Q) → Rests (sync.Settle register control) p q
        → Rests (sync.Settle register control) (m.sets control v p) (n.sets control v q)

  -- two runs are in step: one table, data that agree as wanted, and each thread at rest before its next synchronisation
  pub record InStep (Data : State → State → Type 0) (m : Machine P) (n : Machine Q) (x : PlainOf P) (y : PlainOf Q) : Type 0 where
    pub table : x.table ≡ y.table
    pub states : Data x.state y.state
    pub points : length x.points ≡ length x.table.seats
    pub others : length y.points ≡ length y.table.seats
    pub rests : (t : ℕ) (next : Next) → next_of x.table t ≡ Some next → Rests next.sync (point_by m x t) (point_by n y t)

  -- two runs of a program are one: the same subthreads, the same end, the same data; and they are in step before each position
  pub record IsSameRun (m : Machine P) (n : Machine Q) (program : Program) (inputs : Inputs) (limits : Limits) : Type 0 where
    pub order : order_by m program inputs limits ≡ order_by n program inputs limits
    pub end : end_by m program inputs limits ≡ end_by n program inputs limits
    pub last : (last_by m program inputs limits).state ≡ (last_by n program inputs limits).state
    pub positions : (p : ℕ)
        → InStep (λ left right. left ≡ right) m n (before_by m program inputs limits p) (before_by n program inputs limits p)
