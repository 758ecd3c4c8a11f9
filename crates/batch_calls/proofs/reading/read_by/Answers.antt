use Rattle.std.proofs.Common.{◌≡◌, ◌∙◌, IfOk, sym, subst, refl}
use Rattle.batch_calls.proofs.Answered.{answers_none, answers_memory, answers_asked}
use Rattle.batch_calls.proofs.reading.read_by.Goals as goal

pub returns-in-Ok-Some-clause-answers : goal.returns-in-Ok-Some-clause-answers
returns-in-Ok-Some-clause-answers g c = λ reading words is.
    let some = sym (subst (λ r. IfOk r (λ asked. asked ≡ reading words)) c.in-Ok-Some.is is) ∙ c.in-Ok-Some.field-0-is in
    answers_asked reading words (g.H.Shelf.files c.args.shelf.now) (g.H.Shelf.failed c.args.shelf.now)
    (g.H.Shelf.failed c.read_for.new.shelf) (c.read_for.new.shelf ≡ c.args.shelf.now) c.in-Ok-Some.asked c.read_for.result some
    c.read_for.ensures.unread c.read_for.ensures.shelf c.read_for.ensures.case c.read_for.ensures.asked

pub returns-in-Ok-None-clause-answers : goal.returns-in-Ok-None-clause-answers
returns-in-Ok-None-clause-answers g c = λ reading words is.
    let none = sym (subst (λ r. IfOk r (λ asked. asked ≡ reading words)) c.in-Ok-None.is is) ∙ c.in-Ok-None.field-0-is in
    answers_none reading words (g.H.Shelf.files c.args.shelf.now) (g.H.Shelf.failed c.args.shelf.now)
    (c.args.shelf.now ≡ c.args.shelf.now) refl none

pub returns-in-Err-clause-answers : goal.returns-in-Err-clause-answers
returns-in-Err-clause-answers g c = λ reading words is.
    answers_memory reading words (g.H.Shelf.files c.args.shelf.now) (g.H.Shelf.failed c.args.shelf.now)
    (c.args.shelf.now ≡ c.args.shelf.now) refl
