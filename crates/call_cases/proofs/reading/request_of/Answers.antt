use Rattle.std.proofs.Common.{subst}
use Rattle.gp_base.specs.declared.fault.Faults.{Faults}
use Rattle.gp_base.specs.declared.feed.Inputs.{Inputs}
use Rattle.task_ast.specs.View.{plain_program}
use Rattle.lock_checker.specs.Accepted.{program_of}
use Rattle.std.specs.declared.option.Option.TheVariants.{Some}
use Rattle.call_cases.specs.Refusals.{RefusesShelf}
use Rattle.call_cases.specs.meaning.RunCommands.{MayRead}
use Rattle.call_cases.proofs.Refused.{loaded_err, loaded_reads, struck_err, struck_reads}
use Rattle.call_cases.proofs.reading.request_of.Goals as goal

pub returns-in-Err-clause-shelf : goal.returns-in-Err-clause-shelf
returns-in-Err-clause-shelf g c =
    loaded_reads Inputs c.args.asked (plain_program (program_of c.args.checked)) (g.H.Shelf.failed c.args.shelf.now)
    (g.H.Shelf.failed c.inputs_for.new.shelf) c.in-Err.refusal c.in-Err.ensures.failed

pub returns-in-Err-clause-case : goal.returns-in-Err-clause-case
returns-in-Err-clause-case g c =
    loaded_err c.args.asked (plain_program (program_of c.args.checked))
    (g.H.Shelf.files c.args.shelf.now) c.in-Err.refusal c.in-Err.ensures.told

pub returns-in-Err-read_struck-clause-shelf : goal.returns-in-Err-read_struck-clause-shelf
returns-in-Err-read_struck-clause-shelf g c =
    subst (λ before. RefusesShelf MayRead (Some c.args.asked) before
    (g.H.Shelf.failed c.read_struck.new.shelf) c.in-Err-read_struck.refusal) c.in-Ok.ensures.failed
    (struck_reads Faults c.args.asked (g.H.Shelf.failed c.inputs_for.new.shelf)
    (g.H.Shelf.failed c.read_struck.new.shelf) c.in-Err-read_struck.refusal c.in-Err-read_struck.ensures.failed)

pub returns-in-Err-read_struck-clause-case : goal.returns-in-Err-read_struck-clause-case
returns-in-Err-read_struck-clause-case g c =
    struck_err c.args.asked (plain_program (program_of c.args.checked)) (g.H.Shelf.files c.args.shelf.now)
    (g.H.Shelf.files c.inputs_for.new.shelf) c.in-Ok.inputs c.in-Err-read_struck.refusal c.in-Ok.ensures.kept
    c.in-Ok.ensures.told c.in-Err-read_struck.ensures.told
