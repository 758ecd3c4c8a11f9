-- Laws of an engine between its calls.
use Rattle.std.specs.Prelude.{◌≡◌, ℕ, Contains, Some, slice_get}
use Rattle.gp_base.specs.declared.journal.Event.{Event}
use Rattle.gp_base.specs.declared.journal.Event.TheVariants as event
use Rattle.task_ast.specs.declared.sync.SyncOp.TheVariants as sync
use Rattle.task_ast.specs.meaning.State.{RegistersOf, number_at}
use Rattle.task_ast.specs.meaning.Plain.{Subthread}
use Rattle.task_ast.specs.Position.{before}
use Rattle.subthread.specs.declared.task.Task.{Task}
use Rattle.dependence.specs.meaning.Journal.{Allowed}
use Rattle.whole_run.specs.View.{View, program_in, run_in, now, state_in, Stands, dependence_in}
use Rattle.whole_run.specs.Gives.{Did}
use Rattle.whole_run.specs.Takes.{TaskStands}

-- a task that is out stands after each event, until it is taken
abbrev pub TaskKeptLaw : Type 0
TaskKeptLaw =
    (view after : View) (e : Event) (task : Task) → Stands view → Did view e after → TaskStands view task
    → ¬ Contains (now after).taken (task.pos, task.attempt) → TaskStands after task

-- whatever the faults, a settle hands the number of the plain run to control: where it may be issued, its register
-- holds what it holds in the plain run before that position
abbrev pub SettledNumberLaw : Type 0
SettledNumberLaw =
    (view : View) (p register control : ℕ) (s : Subthread) → Stands view
    → Allowed (dependence_in view.batch) view.batch.faults (now view) (event.Issue p)
    → slice_get (run_in view.batch) p ≡ Some s → s.begins.sync ≡ sync.Settle register control
    → number_at (state_in view (RegistersOf s.thread)) register
    ≡ number_at ((before (program_in view.batch) view.batch.inputs view.batch.limits p).state (RegistersOf s.thread)) register
