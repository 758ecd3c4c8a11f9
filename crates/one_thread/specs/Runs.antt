-- How the code's run stands to the plain run.
use Rattle.std.specs.Prelude.{◌≡◌, ℕ, zero, suc, ◌<◌, ◌≤◌, ℤ, pos, List, [], ◌∷◌, ◌++◌, map, length, zip, Option, Some, slice_get, slice_set}
use Rattle.gp_base.specs.declared.limits.Limits.{Limits}
use Rattle.gp_base.specs.declared.feed.Inputs.{Inputs}
use Rattle.task_ast.specs.declared.tree.Program.{Program as Code}
use Rattle.task_ast.specs.declared.tree.TaskText.{TaskText as CodeTask}
use Rattle.task_ast.specs.declared.sync.SyncOp.{SyncOp}
use Rattle.task_ast.specs.declared.sync.SyncOp.TheVariants as sync
use Rattle.task_ast.specs.declared.sync.Next.{Next}
use Rattle.task_ast.specs.meaning.Tree.{Name}
use Rattle.task_ast.specs.meaning.Names.{locks_of, records_of, feeds_of, cells_in, registers_of}
use Rattle.task_ast.specs.meaning.State.{RegistersOf, number_at, cell_value}
use Rattle.task_ast.specs.Table.{learning}
use Rattle.task_ast.specs.meaning.Plain.{task_at, start_point}
use Rattle.task_ast.specs.Plain.{Plain}
use Rattle.task_ast.specs.View.{plain_task, plain_program}
use Rattle.lock_checker.specs.Accepted.{program_of}
use Rattle.one_thread.specs.declared.walk.Walk.{Walk}
use Rattle.one_thread.specs.declared.work.Told.{Told}
use Rattle.one_thread.specs.declared.work.Done.{Done}
use Rattle.one_thread.specs.declared.threads.Run.{Run}
use Rattle.one_thread.specs.Holding.{AreHeld}
use Rattle.one_thread.specs.View.{table_of, WalksStand}
use Rattle.one_thread.specs.Walking.{point_of}
use Rattle.one_thread.specs.inner.Subthreads.{settled, RanWith}

-- the names of a task's registers
abbrev pub slots_of : CodeTask → List Name
slots_of task = registers_of (plain_task task)

-- the registers of a thread, or none
abbrev pub registers_at : List Walk → ℕ → List ℤ
registers_at [] u = []
registers_at (w ∷ walks) zero = w.data.registers
registers_at (w ∷ walks) (suc u) = registers_at walks u

-- what a join brings
abbrev pub joined_of : SyncOp → List Walk → ℤ
joined_of (sync.Join (pos h)) walks = number_at (registers_at walks h) 0
joined_of _ walks = pos 0

-- a thread of the program, between its subthreads
pub record IsSound (code : Code) (w : Walk) : Type 0 where
  pub program : program_of w.program.now ≡ code
  pub registers : w.registers.now ≡ registers_of (plain_task w.task.now)
  pub clean : w.env.regs ≡ []

pub record AreSound (code : Code) (walks : List Walk) : Type 0 where
  pub each : (u : ℕ) (w : Walk) → slice_get walks u ≡ Some w → IsSound code w

-- a thread at the start of a task
pub record IsNew (code : Code) (task me : ℕ) (arguments registers : List ℤ) (w : Walk) : Type 0 where
  pub sound : IsSound code w
  pub at : point_of w ≡ start_point (task_at (plain_program code) task) me arguments
  pub data_are : w.data.registers ≡ registers

-- a forked thread stands last
abbrev pub Forks : Code → SyncOp → List ℤ → List Walk → List Walk → Type 0
Forks code (sync.Fork task arguments) registers old new =
    (w : Walk) × (new ≡ old ++ w ∷ []) × IsNew code task (length old) arguments registers w
Forks code _ registers old new = new ≡ old

-- a fork makes one thread more
abbrev pub grown : SyncOp → ℕ → ℕ
grown (sync.Fork task arguments) threads = suc threads
grown _ threads = threads

-- one subthread of a run was performed
pub record Performed (old : Run) (t : ℕ) (begins : Next) (child : Option ℕ) (told : Told) (new : Run) : Type 0 where
  pub was : Walk
  pub is : Walk
  pub done : Done
  pub at : slice_get old.threads.items t ≡ Some was
  pub ran : RanWith (settled begins.sync was) old.shared begins.sync child
      (joined_of begins.sync old.threads.items) old.turns done is new.shared
  pub threads : Forks (program_of old.program.now) begins.sync done.child (slice_set old.threads.items t is) new.threads.items
  pub table : table_of new.table ≡ learning (table_of old.table) t done.next
  pub owners : new.table.owners ≡ old.table.owners
  pub walks : WalksStand new.table
  pub told_is : told ≡ done.told
  pub program : new.program ≡ old.program
  pub slots : new.slots ≡ old.slots
  pub turns : new.turns ≡ old.turns

-- the code's run stands for a state of the plain run
pub record Holds (code : Code) (inputs : Inputs) (limits : Limits) (run : Run) (plain : Plain) : Type 0 where
  pub program : program_of run.program.now ≡ code
  pub slots : run.slots.now ≡ map slots_of code.tasks
  pub turns : run.turns ≡ limits.turns
  pub feeds : run.shared.feeds ≡ zip (feeds_of code.heads) inputs.feeds
  pub held : AreHeld run.table.owners.owners.items run.table.owners.held.items
  pub walks : WalksStand run.table
  pub table : table_of run.table ≡ plain.table
  pub sound : AreSound code run.threads.items
  pub points : map point_of run.threads.items ≡ plain.points
  pub registers : (u : ℕ) → registers_at run.threads.items u ≡ plain.state (RegistersOf u)
  pub cells : (c : ℕ) → c < cells_in (records_of code.heads) → number_at run.shared.cells c ≡ cell_value plain.state c
  pub many : length run.shared.cells ≡ cells_in (records_of code.heads)

-- a program has few cells
pub record IsSmall (code : Code) : Type 0 where
  pub locks : cells_in (locks_of code.heads) ≤ 65536
  pub records : cells_in (records_of code.heads) ≤ 65536
