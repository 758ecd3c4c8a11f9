-- One subthread of the order, where threads start, and the end that a move finds.
use Rattle.std.specs.Prelude.{ℕ, ℤ, pos, List, [], ◌∷◌, ◌++◌, Option, slice_get, unwrap_or, zip}
use Rattle.task_ast.specs.meaning.Tree.{Name, Nothing, statements, TaskText, Program}
use Rattle.task_ast.specs.meaning.Names.{feeds_of, controls, declared_in, task_number}
use Rattle.task_ast.specs.meaning.Declarations.{main}
use Rattle.task_ast.specs.meaning.Action.{Action}
use Rattle.gp_base.specs.declared.feed.Inputs.{Inputs}
use Rattle.gp_base.specs.declared.footprint.Footprint.{Footprint}
use Rattle.gp_base.specs.declared.ending.End.{End}
use Rattle.gp_base.specs.declared.ending.End.TheVariants.{Finished}
use Rattle.task_ast.specs.declared.sync.Next.{Next}
use Rattle.task_ast.specs.meaning.Control.{Setting, Point}
use Rattle.task_ast.specs.meaning.Footprint.{footprint}
use Rattle.task_ast.specs.meaning.Repeat.{Move, Goes, Ends}

-- one subthread of the order
pub record Subthread : Type 0 where
  pub thread : ℕ
  pub begins : Next
  pub child : Option ℕ
  pub held : List ℕ
  pub actions : List Action
  pub lines : List (List ℤ)

-- what it reads and what it writes
abbrev pub foot_of : Subthread → Footprint
foot_of s = footprint s.thread s.begins.sync s.child s.actions

-- a task with nothing in it
abbrev pub no_task : TaskText
no_task = record { name = []; params = []; vars = []; body = Nothing; line = 0 }

-- the task of this number
abbrev pub task_at : Program → ℕ → TaskText
task_at program k = unwrap_or (slice_get program.tasks k) no_task

-- each name with its value; a name without a value has 0
abbrev pub given : List Name → List ℤ → List (Name × ℤ)
given [] values = []
given (x ∷ names) [] = (x, pos 0) ∷ given names []
given (x ∷ names) (v ∷ values) = (x, v) ∷ given names values

-- the start of a thread, with the values of its control parameters
abbrev pub start_point : TaskText → (thread : ℕ) → (arguments : List ℤ) → Point
start_point task me arguments =
    record {
      task = task;
      left = statements task.body;
      names = given (controls task.params) arguments ++ given (controls (declared_in task.vars)) [];
      me = me;
    }

-- the program, with its feeds by name
abbrev pub setting_of : Program → Inputs → Setting
setting_of program inputs = record { program = program; feeds = zip (feeds_of program.heads) inputs.feeds }

-- the number of the task of thread 0
abbrev pub main_number : Program → ℕ
main_number program = unwrap_or (task_number program main) 0

-- the task of thread 0
abbrev pub main_task : Program → TaskText
main_task program = task_at program (main_number program)

-- the end that a move finds
abbrev pub ending_of : {A : Type 0} → Move A Subthread End → End
ending_of (Goes s p) = Finished
ending_of (Ends e) = e
