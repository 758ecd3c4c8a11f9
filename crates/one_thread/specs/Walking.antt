-- Where a thread at work stands, and what its steps do.
use Rattle.std.specs.Prelude.{◌≡◌, ℕ, ℤ, List, [], ◌++◌, Option, option_map, unwrap_or}
use Rattle.task_ast.specs.View.{plain_stmts, plain_task}
use Rattle.lock_checker.specs.Accepted.{program_of}
use Rattle.task_ast.specs.meaning.Action.{Action}
use Rattle.task_ast.specs.meaning.Body.{Step, Silent, Iteration, Act, Stop, Body}
use Rattle.task_ast.specs.meaning.Control.{Setting, Point, going, tree_body}
use Rattle.task_ast.specs.declared.sync.Next.{Next}
use Rattle.one_thread.specs.declared.data.Data.{Data}
use Rattle.one_thread.specs.declared.walk.Walk.{Walk}
use Rattle.one_thread.specs.declared.walk.Went.{Went}
use Rattle.one_thread.specs.declared.walk.Went.TheVariants as went
use Rattle.one_thread.specs.inner.Remaining.{left_of}
use Rattle.one_thread.specs.inner.Working.{setting_in, recorded, all_worked}

-- the program and the feeds of a thread at work
abbrev pub setting_of : Walk → Setting
setting_of walk = setting_in (program_of walk.program.now) walk.env

-- where it stands
abbrev pub point_of : Walk → Point
point_of walk = record { task = plain_task walk.task.now; left = left_of walk.left; names = walk.env.names; me = walk.env.me }

-- what no step changes; expressions are read without registers
pub record Keeps (old new : Walk) : Type 0 where
  pub program : new.program ≡ old.program
  pub task : new.task ≡ old.task
  pub registers : new.registers ≡ old.registers
  pub feeds : new.env.feeds ≡ old.env.feeds
  pub clean : new.env.regs ≡ []

-- a step led to a point
pub record LeadsTo (q : Point) (old new : Walk) : Type 0 where
  pub at : point_of new ≡ q
  pub keeps : Keeps old new

-- what one control step did; a loop turn is only found, and not yet taken
abbrev pub Stepped : Step Point → Went → Walk → Walk → Type 0
Stepped (Silent q) went.On old new = LeadsTo q old new × (new.data ≡ old.data)
Stepped (Act a q) went.On old new = LeadsTo q old new × ((joined : ℤ) → new.data ≡ recorded joined a old.data)
Stepped (Iteration q) (went.Turned body) old new =
    (q ≡ going (point_of new) (plain_stmts body.now ++ left_of new.left)) × LeadsTo (point_of old) old new × (new.data ≡ old.data)
Stepped (Stop next) (went.Stopped n) old new = (n ≡ next) × LeadsTo (point_of old) old new × (new.data ≡ old.data)
Stepped _ _ old new = ⊥

-- from one body the run goes as from another, after what was done
pub record GoesOn (b : Body Point) (old : Data) (c : Body Point) (new : Data) : Type 0 where
  pub next : b.next ≡ c.next
  pub at : b.at ≡ c.at
  pub does : (joined : ℤ) → all_worked joined b.actions old ≡ all_worked joined c.actions new

-- steps without a loop turn led from one walk to another, whatever turns are allowed
pub record Came (old new : Walk) : Type 0 where
  pub by : (turns : ℕ)
      → GoesOn (tree_body (setting_of old) turns (point_of old)) old.data (tree_body (setting_of old) turns (point_of new)) new.data
  pub keeps : Keeps old new

-- a walk stands before a loop turn or at a stop
abbrev pub Halted : Step Point → Went → Walk → Type 0
Halted (Iteration q) (went.Turned body) walk = q ≡ going (point_of walk) (plain_stmts body.now ++ left_of walk.left)
Halted (Stop next) (went.Stopped n) walk = n ≡ next
Halted _ _ walk = ⊥

-- a run of a body: what comes next, where the thread then stands, and what its actions do
pub record Ran (b : Body Point) (next : Next) (old new : Walk) : Type 0 where
  pub next_is : next ≡ b.next
  pub at : point_of new ≡ b.at
  pub does : (joined : ℤ) → new.data ≡ all_worked joined b.actions old.data
  pub keeps : Keeps old new

-- a subthread began at a point with these actions
pub record Begun (actions : List Action) (q : Point) (joined : ℤ) (old new : Walk) : Type 0 where
  pub at : point_of new ≡ q
  pub does : new.data ≡ all_worked joined actions old.data
  pub keeps : Keeps old new

-- the actions of a fork's arguments are done, where these are resolved, and nothing else changes
pub record Gives (o : Option (List ℤ × List Action)) (old new : Walk) : Type 0 where
  pub does : (joined : ℤ) → new.data ≡ all_worked joined (unwrap_or (option_map (λ arguments. arguments.1) o) []) old.data
  pub left : new.left ≡ old.left
  pub env : new.env ≡ old.env
  pub program : new.program ≡ old.program
  pub task : new.task ≡ old.task
  pub registers : new.registers ≡ old.registers
