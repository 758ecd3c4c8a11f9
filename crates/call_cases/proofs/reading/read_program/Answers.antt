use Rattle.std.proofs.Common.{ap, Err, IfSome, Some, subst, sym}
use Rattle.call_cases.specs.declared.reading.Refusal.TheVariants.{ReadFault}
use Rattle.call_cases.specs.meaning.RunCommands.{MayRead, asking, the_program}
use Rattle.call_cases.specs.meaning.Case.{IsCaseOf}
use Rattle.call_cases.specs.Refusals.{RefusesCase, RefusesShelf}
use Rattle.call_cases.proofs.Refused.{long_case, unread_answers}
use Rattle.call_cases.proofs.reading.read_program.Goals as goal

pub returns-in-Err-TooLong-clause-case : goal.returns-in-Err-TooLong-clause-case
returns-in-Err-TooLong-clause-case g c =
    long_case (g.H.Shelf.files c.args.shelf.now) c.args.asked.now (g.H.Shelf.failed c.args.shelf.now)
    (g.H.Shelf.failed c.read.new.self) c.refused.result c.refused.ensures
    (rw c.in-Err-TooLong.field-0-is at c.in-Err-TooLong.ensures.told)

pub returns-in-Ok-copied-clause-shelf : goal.returns-in-Ok-copied-clause-shelf
returns-in-Ok-copied-clause-shelf g c =
    subst (λ name. RefusesShelf MayRead (Some c.args.asked.now) (g.H.Shelf.failed c.args.shelf.now)
    (g.H.Shelf.failed c.read.new.self) (ReadFault name)) (sym c.in-Ok-copied.ensures)
    (c.in-Err-Failed.ensures.named, c.in-Err-Failed.ensures.cause.failed (ap Err c.in-Err-Failed.field-0-is), the_program)

pub returns-in-Ok-copied-clause-case : goal.returns-in-Ok-copied-clause-case
returns-in-Ok-copied-clause-case g c =
    subst (λ name. IfSome (g.H.Shelf.files c.args.shelf.now) (λ files. RefusesCase (IsCaseOf asking c.args.asked.now files) (ReadFault name)))
    (sym c.in-Ok-copied.ensures) (unread_answers (g.H.Shelf.files c.args.shelf.now) c.args.asked.now)
