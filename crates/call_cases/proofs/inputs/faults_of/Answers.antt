use Rattle.gp_base.specs.declared.fault.Faults.{Faults}
use Rattle.batch_files.specs.meaning.Faults.{faults_by}
use Rattle.call_cases.proofs.Loads.{rows_ok}
use Rattle.call_cases.proofs.inputs.faults_of.Goals as goal

pub returns-in-Ok-clause-told : goal.returns-in-Ok-clause-told
returns-in-Ok-clause-told g c =
    rows_ok (g.H.Shelf.files c.args.shelf.now) (λ (faults : Faults). faults.list) c.args.name.now c.in_ok-text.text faults_by
    c.in-Ok.faults c.in_ok-text.ensures.told c.in-Ok.ensures
