-- The walk law: along the steps of one thread of an accepted program, what is held is what was locked and not unlocked.
use Rattle.std.specs.Prelude.{◌≡◌, ◌≢◌, ℕ, ℤ, List, [], ◌∷◌, ◌++◌, true, false, not, map, filter, Option, Some, slice_get}
use Rattle.task_ast.specs.declared.env.Env.{Env}
use Rattle.task_ast.specs.declared.sync.SyncOp.{SyncOp}
use Rattle.task_ast.specs.declared.sync.SyncOp.TheVariants as sync
use Rattle.task_ast.specs.declared.sync.Next.{Next}
use Rattle.task_ast.specs.declared.tree.Atom.{Atom}
use Rattle.task_ast.specs.declared.tree.Head.{Head}
use Rattle.task_ast.specs.meaning.Tree.{Name, Stmt, At, What, Lock, Unlock, Read, Write, When, Block, Nothing, Then, statements, TaskText}
use Rattle.task_ast.specs.meaning.Names.{locks_of, arrays_over, named, cell_number}
use Rattle.task_ast.specs.meaning.Action.{Action}
use Rattle.task_ast.specs.meaning.Body.{Silent, Iteration, Act, Stop}
use Rattle.task_ast.specs.meaning.Control.{Setting, Point, with_number, step, env_at, index_of, beginning}
use Rattle.task_ast.specs.meaning.Held.{Pair, same_pair, has}
use Rattle.task_ast.specs.Shaped.{IsAccepted}

-- a pair that is held, with the value that its atom had at the lock and the cell that was locked
pub record Holding : Type 0 where
  pub pair : Pair
  pub value : ℤ
  pub cell : ℕ

abbrev pub pair_in : Holding → Pair
pair_in h = h.pair

abbrev pub pairs_held : List Holding → List Pair
pairs_held held = map pair_in held

-- what is left of the holdings when a pair is unlocked
abbrev pub released : List Holding → Pair → List Holding
released held p = filter (λ h. not (same_pair p h.pair)) held

-- the cell that a synchronisation locks
abbrev pub cell_of : SyncOp → ℕ
cell_of (sync.Lock l) = l
cell_of _ = 0

-- what is locked and not unlocked after the synchronisation at these statements
abbrev pub held_past : SyncOp → List Stmt → Env → List Holding → List Holding
held_past op (At line (Lock a i) ∷ rest) env held = held ++ record { pair = (a, i); value = index_of i env; cell = cell_of op } ∷ []
held_past op (At line (Unlock a i) ∷ rest) env held = released held (a, i)
held_past op _ env held = held

-- from the start of a task the thread comes to a point, with these pairs locked and not unlocked
pub data Comes (s : Setting) (start : Point) : Point → List Holding → Type 0 where
  begins : Comes s start start []
  silently : {p q : Point} {held : List Holding} → Comes s start p held → step s p ≡ Silent q → Comes s start q held
  by_turn : {p q : Point} {held : List Holding} → Comes s start p held → step s p ≡ Iteration q → Comes s start q held
  acting : {p q : Point} {a : Action} {held : List Holding} → Comes s start p held → step s p ≡ Act a q → Comes s start q held
  past : {p : Point} {next : Next} {held : List Holding} → Comes s start p held → step s p ≡ Stop next → next.sync ≢ sync.BadIndex
      → (child : Option ℕ) → Comes s start (beginning next.sync child p) (held_past next.sync p.left (env_at s p) held)
  -- a settle sets its variable to any value
  by_settle : {p : Point} {next : Next} {held : List Holding} {register control : ℕ} → Comes s start p held → step s p ≡ Stop next
      → next.sync ≡ sync.Settle register control → (v : ℤ) (child : Option ℕ)
      → Comes s start (beginning next.sync child (record p { names = with_number p.names control v }))
      (held_past next.sync p.left (env_at s p) held)

-- a record's cell at this index is touched where the pair of its lock array and the index is held
abbrev pub IsUnderHeld : List Head → Name → Atom → List Pair → Type 0
IsUnderHeld heads r i held = (a : Name) × (named r (arrays_over heads) ≡ Some a) × (has held (a, i) ≡ true)

abbrev mutual
  -- the records that a data statement touches are under held pairs
  pub TouchesHeld : List Head → What → List Pair → Type 0
  TouchesHeld heads (Read r i x) held = IsUnderHeld heads r i held
  TouchesHeld heads (Write r i e) held = IsUnderHeld heads r i held
  TouchesHeld heads (Lock a i) held = has held (a, i) ≡ false
  TouchesHeld heads (Unlock a i) held = has held (a, i) ≡ true
  TouchesHeld heads (When e a b) held = TouchesAllHeld heads a held × TouchesAllHeld heads b held
  TouchesHeld heads _ held = Unit {0}

  pub TouchesAllHeld : List Head → Block → List Pair → Type 0
  TouchesAllHeld heads Nothing held = Unit {0}
  TouchesAllHeld heads (Then (At line w) b) held = TouchesHeld heads w held × TouchesAllHeld heads b held

-- the first of the statements left touches records under held pairs alone
abbrev pub NextTouchesHeld : List Head → List Stmt → List Pair → Type 0
NextTouchesHeld heads [] held = Unit {0}
NextTouchesHeld heads (At line w ∷ rest) held = TouchesHeld heads w held

-- each atom still has the value that it had at the lock, and stands for the cell that was locked
pub data StillNamed (heads : List Head) (env : Env) : List Holding → Type 0 where
  none_held : StillNamed heads env []
  one_held : {h : Holding} {held : List Holding} → index_of h.pair.1 env ≡ h.value
      → cell_number (locks_of heads) h.pair.0 h.value ≡ Some h.cell → StillNamed heads env held → StillNamed heads env (h ∷ held)

-- at each point that a thread of an accepted program comes to; nothing is held where its task ends
abbrev pub WalkLaw : Type 0
WalkLaw =
    (s : Setting) (k : ℕ) (task : TaskText) (start p : Point) (held : List Holding) → IsAccepted s.program
    → slice_get s.program.tasks k ≡ Some task → start.left ≡ statements task.body → Comes s start p held
    → NextTouchesHeld s.program.heads p.left (pairs_held held) × StillNamed s.program.heads (env_at s p) held × (p.left ≡ [] → held ≡ [])
