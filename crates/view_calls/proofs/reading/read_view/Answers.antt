use Rattle.std.proofs.Common.{◌≡◌, None, Some, sym, subst}
use Rattle.command_line.specs.meaning.Words.{texts}
use Rattle.call_cases.specs.Refusals.{TouchesShelf}
use Rattle.call_cases.proofs.Answering.{usage_case, asked_case}
use Rattle.view_calls.specs.meaning.Commands.{viewed_by, MayRead, asking}
use Rattle.view_calls.specs.Sights.{case_of}
use Rattle.view_calls.proofs.reading.read_view.Goals as goal

pub returns-in-Ok-None-clause-case : goal.returns-in-Ok-None-clause-case
returns-in-Ok-None-clause-case g c =
    let none : viewed_by (texts c.args.words.now) ≡ None = sym (rw c.in-Ok-None.field-0-is at c.in-Ok-None.ensures.viewed) in
    usage_case asking (texts c.args.words.now) (g.H.Shelf.files c.args.shelf.now) none

pub returns-clause-shelf : goal.returns-clause-shelf
returns-clause-shelf g c =
    let some : viewed_by (texts c.args.words.now) ≡ Some c.in-Ok-Some.viewed =
    sym (rw c.in-Ok-Some.field-0-is at c.in-Ok-Some.ensures.viewed) in
    subst (λ viewed. TouchesShelf MayRead viewed (g.H.Shelf.failed c.args.shelf.now)
    (g.H.Shelf.failed c.read_viewed.new.shelf) c.read_viewed.result) (sym some) c.read_viewed.ensures.shelf

pub returns-clause-case : goal.returns-clause-case
returns-clause-case g c =
    let some : viewed_by (texts c.args.words.now) ≡ Some c.in-Ok-Some.viewed =
    sym (rw c.in-Ok-Some.field-0-is at c.in-Ok-Some.ensures.viewed) in
    asked_case asking (texts c.args.words.now) case_of
    (g.H.Shelf.files c.args.shelf.now) c.in-Ok-Some.viewed c.read_viewed.result some c.read_viewed.ensures.case
