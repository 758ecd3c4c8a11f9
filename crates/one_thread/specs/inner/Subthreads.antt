-- What the work of one subthread does.
use Rattle.std.specs.Prelude.{◌≡◌, ℕ, ℤ, List, [], ◌++◌, Option}
use Rattle.task_ast.specs.declared.sync.SyncOp.{SyncOp}
use Rattle.task_ast.specs.declared.sync.SyncOp.TheVariants as sync
use Rattle.task_ast.specs.meaning.Action.{Action}
use Rattle.task_ast.specs.meaning.Body.{Body}
use Rattle.task_ast.specs.meaning.Footprint.{Named}
use Rattle.task_ast.specs.meaning.State.{number_at}
use Rattle.task_ast.specs.meaning.Tree.{Name}
use Rattle.task_ast.specs.meaning.Control.{Point, with_number, beginning, first_actions, tree_body}
use Rattle.one_thread.specs.declared.data.Data.{Data}
use Rattle.one_thread.specs.declared.walk.Walk.{Walk}
use Rattle.one_thread.specs.declared.work.Shared.{Shared}
use Rattle.one_thread.specs.declared.work.Done.{Done}
use Rattle.one_thread.specs.inner.Working.{all_worked}
use Rattle.one_thread.specs.Walking.{setting_of, point_of}

-- its control variables, of which a settle has set one to the value of a register
abbrev pub settled_names : SyncOp → Walk → List (Name × ℤ)
settled_names (sync.Settle register control) walk = with_number walk.env.names control (number_at walk.data.registers register)
settled_names _ walk = walk.env.names

abbrev pub settled : SyncOp → Walk → Walk
settled begins walk = record walk { env = record walk.env { names = settled_names begins walk } }

-- no record cell
abbrev pub nothing_named : Named
nothing_named = record { reads = []; writes = [] }

-- a thread with what all threads share in its hands, before it does anything
abbrev pub at_work : Walk → Shared → Walk
at_work walk shared =
    record walk {
      env = record walk.env { feeds = shared.feeds };
      «data» = record { registers = walk.data.registers; child = []; cells = shared.cells; lines = []; named = nothing_named };
    }

-- the body of a subthread that begins so
abbrev pub body_from : Walk → SyncOp → Option ℕ → ℕ → Body Point
body_from walk begins child turns = tree_body (setting_of walk) turns (beginning begins child (point_of walk))

-- its actions, with those of the synchronisation before them
abbrev pub actions_from : Walk → SyncOp → Option ℕ → ℕ → List Action
actions_from walk begins child turns = first_actions (setting_of walk) begins (point_of walk) ++ (body_from walk begins child turns).actions

-- the data after them
abbrev pub data_from : Walk → SyncOp → Option ℕ → ℤ → ℕ → Data
data_from walk begins child joined turns = all_worked joined (actions_from walk begins child turns) walk.data

-- a subthread was run
pub record RanWith (old : Walk) (shared : Shared) (begins : SyncOp) (child : Option ℕ) (joined : ℤ) (turns : ℕ) (done : Done) (new : Walk)
    (left : Shared) : Type 0 where
  pub next_is : done.next ≡ (body_from (at_work old shared) begins child turns).next
  pub at : point_of new ≡ (body_from (at_work old shared) begins child turns).at
  pub registers_are : new.data.registers ≡ (data_from (at_work old shared) begins child joined turns).registers
  pub child_is : done.child ≡ (data_from (at_work old shared) begins child joined turns).child
  pub lines_are : done.told.lines ≡ (data_from (at_work old shared) begins child joined turns).lines
  pub named_are : done.told.named ≡ (data_from (at_work old shared) begins child joined turns).named
  pub cells_are : left.cells ≡ (data_from (at_work old shared) begins child joined turns).cells
  pub feeds_are : left.feeds ≡ shared.feeds
  pub program : new.program ≡ old.program
  pub task : new.task ≡ old.task
  pub registers : new.registers ≡ old.registers
  pub clean : new.env.regs ≡ []
