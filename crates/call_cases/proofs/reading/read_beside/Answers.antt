use Rattle.std.proofs.Common.{refl}
use Rattle.task_ast.specs.View.{plain_program}
use Rattle.lock_checker.specs.Accepted.{program_of}
use Rattle.call_cases.proofs.Refused.{refused_answers, accepted_answers}
use Rattle.call_cases.proofs.reading.read_beside.Goals as goal

pub returns-in-Ok-clause-case : goal.returns-in-Ok-clause-case
returns-in-Ok-clause-case g c =
    let checked = c.in-Ok.checked in
    let program = plain_program (program_of checked) in
    accepted_answers (g.H.Shelf.files c.args.shelf.now) (g.H.Shelf.files c.args.shelf.now) c.args.asked c.args.text.now program
    c.request_of.result refl c.in-Ok.ensures checked.accepted.faultless c.request_of.ensures.case

pub returns-in-Err-clause-case : goal.returns-in-Err-clause-case
returns-in-Err-clause-case g c =
    refused_answers (g.H.Shelf.files c.args.shelf.now) c.args.asked c.args.text.now c.in-Err.refusal c.in-Err.ensures
