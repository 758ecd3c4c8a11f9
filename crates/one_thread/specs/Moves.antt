-- How the loop of the code follows the moves of the plain run.
use Rattle.std.specs.Prelude.{◌≡◌, ℕ, suc, ◌+◌, ◌<◌, ◌≤◌, List, ◌∷◌, ◌++◌, map, length, Option}
use Rattle.gp_base.specs.declared.limits.Limits.{Limits}
use Rattle.gp_base.specs.declared.feed.Inputs.{Inputs}
use Rattle.gp_base.specs.declared.ending.End.{End}
use Rattle.gp_base.specs.declared.footprint.Loc.TheVariants as loc
use Rattle.gp_base.specs.declared.footprint.Footprint.{Footprint}
use Rattle.task_ast.specs.declared.tree.Program.{Program as Code}
use Rattle.task_ast.specs.declared.sync.SyncOp.{SyncOp}
use Rattle.task_ast.specs.declared.sync.Next.{Next}
use Rattle.task_ast.specs.meaning.Footprint.{Named, joined_registers, child_registers}
use Rattle.task_ast.specs.meaning.Repeat.{Goes, Ends, steps, state_after}
use Rattle.task_ast.specs.meaning.Table.{owned_from}
use Rattle.task_ast.specs.meaning.Plain.{Subthread}
use Rattle.task_ast.specs.Plain.{Plain, move, order, last_state}
use Rattle.task_ast.specs.View.{plain_program}
use Rattle.one_thread.specs.declared.work.Told.{Told}
use Rattle.one_thread.specs.declared.threads.Run.{Run}
use Rattle.one_thread.specs.declared.run.Step.{Step}
use Rattle.one_thread.specs.declared.run.Move.{Move}
use Rattle.one_thread.specs.declared.run.Move.TheVariants as here
use Rattle.one_thread.specs.PlainRuns.{shown}
use Rattle.one_thread.specs.Runs.{Performed, Holds}

-- what a subthread reads and writes that names these record cells
abbrev pub foot_with : (thread : ℕ) → (begins : SyncOp) → (child : Option ℕ) → Named → Footprint
foot_with t begins child named =
    record {
      reads = joined_registers begins ++ map loc.Rec named.reads;
      writes = loc.Regs t ∷ child_registers child ++ map loc.Rec named.writes;
    }

-- one subthread of a run was performed, and what the code says of it
pub record Stepped (old : Run) (t : ℕ) (begins : Next) (child : Option ℕ) (step : Step) (new : Run) : Type 0 where
  pub told : Told
  pub performed : Performed old t begins child told new
  pub thread_is : step.thread ≡ t
  pub begins_is : step.begins ≡ begins
  pub held_is : step.held ≡ owned_from 0 old.table.owners.owners.items t
  pub foot_is : step.foot ≡ foot_with t begins.sync child told.named
  pub prints_are : step.prints ≡ told.lines

-- a move of the plain run to a next subthread, after which the code's run stands for it again
pub record Went (code : Code) (inputs : Inputs) (limits : Limits) (plain : Plain) (step : Step) (new : Run) : Type 0 where
  pub subthread : Subthread
  pub then : Plain
  pub moves : move (plain_program code) inputs limits plain ≡ Goes subthread then
  pub shows : step ≡ shown subthread
  pub holds : Holds code inputs limits new then
  pub alike : length new.threads.items ≡ length new.table.seats.items
  pub below : plain.table.issued < plain.table.limit
  pub issued_is : then.table.issued ≡ suc plain.table.issued
  pub limit_is : then.table.limit ≡ plain.table.limit

-- the plain run has ended so
pub record Halted (code : Code) (inputs : Inputs) (limits : Limits) (plain : Plain) (e : End) : Type 0 where
  pub moves : move (plain_program code) inputs limits plain ≡ Ends e

-- what the code finds next is what the plain run does next
abbrev pub Follows : Code → Inputs → Limits → Run → Plain → Move → Run → Type 0
Follows code inputs limits old plain (here.Goes step) new = Went code inputs limits plain step new
Follows code inputs limits old plain (here.Ends e) new = Halted code inputs limits plain e × (new.shared ≡ old.shared)

-- what was performed so far, and what is left, are the plain run
pub record Ahead (code : Code) (inputs : Inputs) (limits : Limits) (done : List Step) (run : Run) : Type 0 where
  pub plain : Plain
  pub left : ℕ
  pub holds : Holds code inputs limits run plain
  pub alike : length run.threads.items ≡ length run.table.seats.items
  pub order_is : done ++ map shown (steps (move (plain_program code) inputs limits) left plain)
      ≡ map shown (order (plain_program code) inputs limits)
  pub last_is : state_after (move (plain_program code) inputs limits) left plain ≡ last_state (plain_program code) inputs limits
  pub count_is : left + plain.table.issued ≡ suc limits.subthreads
  pub limit_is : plain.table.limit ≡ limits.subthreads
  pub below : plain.table.issued ≤ limits.subthreads
