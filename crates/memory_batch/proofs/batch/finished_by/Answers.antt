use Rattle.std.proofs.Common.{rules, ◌≡◌, List, ℕ, refl, subst}
use Rattle.lock_checker.specs.Accepted.{program_of}
use Rattle.task_ast.specs.meaning.Names.{records_of}
use Rattle.task_ast.specs.meaning.Layout.{cut}
use Rattle.run_told.specs.Told.{TellsRun}
use Rattle.memory_batch.specs.Sourced.{sourced}
use Rattle.memory_batch.proofs.batch.finished_by.Goals as goal

pub returns : goal.returns
returns c =
    let heads = (program_of c.args.request.now.checked).heads in
    let told = c.in-Some.told in
    let read : TellsRun heads told.lines told.cells c.as_slice.result.now = rw c.in-Some.is at c.in_ok-told.ensures in
    let text : c.as_slice.result.now ≡ c.args.text = search rules in
    let tells : TellsRun heads told.lines told.cells c.args.text = subst (λ (t : List ℕ). TellsRun heads told.lines told.cells t) text read in
    let are : c.in_ok-cells.cells ≡ sourced heads (cut (records_of heads) told.cells) = search rules in
    (record { all = told.cells; tells = tells; are = are }, refl)
