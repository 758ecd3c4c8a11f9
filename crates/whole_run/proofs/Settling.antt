-- A settle finds the number of the plain run.
use Rattle.std.proofs.Common.{◌≡◌, ℕ, true, Some, sym, ap, ◌∙◌, slice_get, false}
use Rattle.std.specs.Option.{option_map_or}
use Rattle.gp_base.specs.declared.journal.Event.TheVariants as event
use Rattle.task_ast.specs.meaning.State.{State, RegistersOf, number_at}
use Rattle.task_ast.specs.meaning.Table.{is_settle}
use Rattle.task_ast.specs.meaning.Plain.{Subthread}
use Rattle.task_ast.specs.Position.{before}
use Rattle.dependence.specs.meaning.Journal.{Allowed}
use Rattle.whole_run.specs.View.{View, program_in, run_in, dependence_in, now, state_in, Stands}
use Rattle.whole_run.specs.Laws.{SettledNumberLaw}
use Rattle.whole_run.proofs.Folds.{drained-fold}

-- where a settle may be issued, the state is that of the plain run
settled-state : (view : View) (p : ℕ) (s : Subthread) → Stands view
    → Allowed (dependence_in view.batch) view.batch.faults (now view) (event.Issue p)
    → slice_get (run_in view.batch) p ≡ Some s → is_settle s.begins.sync ≡ true
    → state_in view ≡ (before (program_in view.batch) view.batch.inputs view.batch.limits p).state
settled-state view p s stands may at settles =
    drained-fold (program_in view.batch) view.batch.inputs view.batch.limits view.batch.faults stands.short view.batch.recovery view.events
    stands.lawful (may.settled (ap (λ o. option_map_or (λ (s : Subthread). is_settle s.begins.sync) o false) at ∙ settles) ∙ may.next)
    ∙ ap (λ q. (before (program_in view.batch) view.batch.inputs view.batch.limits q).state) (sym may.next)

pub settled-number : SettledNumberLaw
settled-number view p register control s stands may at begins =
    ap (λ (state : State). number_at (state (RegistersOf s.thread)) register)
    (settled-state view p s stands may at (ap is_settle begins))
