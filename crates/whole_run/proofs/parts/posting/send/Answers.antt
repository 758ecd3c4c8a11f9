use Rattle.std.proofs.Common.{◌∙◌}
use Rattle.whole_run.proofs.Lendings.{back-away, back-as-lent, back-home}
use Rattle.whole_run.proofs.parts.posting.send.Goals as goal

pub take_back-requires-clause-away : goal.take_back-requires-clause-away
take_back-requires-clause-away g c =
    back-away c.args.store.now c.lend-task.new.store c.args.task c.in-Err.refused.value c.requires.home
    (c.in-Err.ensures.back ∙ c.lend-task.ensures.task) c.lend-task.ensures.store

pub take_back-requires-clause-as_lent : goal.take_back-requires-clause-as_lent
take_back-requires-clause-as_lent g c =
    back-as-lent c.args.store.now c.lend-task.new.store c.args.task c.in-Err.refused.value c.requires.home
    (c.in-Err.ensures.back ∙ c.lend-task.ensures.task) c.lend-task.ensures.store

pub returns-in-Err-clause-home : goal.returns-in-Err-clause-home
returns-in-Err-clause-home g c =
    c.take_back.ensures
    ∙ back-home c.args.store.now c.lend-task.new.store c.args.task c.in-Err.refused.value c.requires.home
    (c.in-Err.ensures.back ∙ c.lend-task.ensures.task) c.lend-task.ensures.store
