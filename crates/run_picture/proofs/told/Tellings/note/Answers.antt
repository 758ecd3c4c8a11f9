use Rattle.std.proofs.Common.{cond, ◌&&◌, nat_eq, ap, ap₂, sym, ◌∙◌}
use Rattle.run_picture.specs.meaning.Attempts.{told_by}
use Rattle.run_picture.specs.inner.Tellings.{found}
use Rattle.run_picture.proofs.Takes.{noted}
use Rattle.run_picture.proofs.told.Tellings.note.Goals as goal

pub returns-in_ok-insert : goal.returns-in_ok-insert
returns-in_ok-insert c = λ position attempt.
    let before = found c.args.self.now position attempt in
    noted c.args.self.now.taken c.insert.new.self c.args.self.now.others c.taken_as.result
    (c.position.inside.0, c.in-Take.attempt) c.in_ok-insert.ensures.updates.0 position attempt
    ∙ ap₂ (λ q value. cond (nat_eq q position && nat_eq c.in-Take.attempt attempt) value before) c.position.view_is c.taken_as.ensures
    ∙ sym (ap (told_by position attempt before) c.in-Take.is)
