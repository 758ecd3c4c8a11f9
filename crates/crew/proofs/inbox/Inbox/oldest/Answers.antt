use Rattle.std.proofs.lemmas.List.Elements.{All-take, All-drop}
use Rattle.subthread.specs.Tasks.{Fits}
use Rattle.crew.proofs.inbox.Inbox.oldest.Goals as goal

pub invariant_of-self : goal.invariant_of-self
invariant_of-self c =
    rw (c.replace-first.ensures.after, c.in-Ok.ensures.tail)
    (All-drop (Fits c.self.inside.work.now) c.args.most c.self.inside.waiting.items c.self.invariant)

pub invariant_of-self-in-Err : goal.invariant_of-self-in-Err
invariant_of-self-in-Err c = rw c.in-Err.ensures.err c.self.invariant

pub returns-in-Ok-clause-fits : goal.returns-in-Ok-clause-fits
returns-in-Ok-clause-fits c =
    rw (← c.self.view_is, c.from_vec.ensures, c.from.ensures.0, c.replace-first.ensures.value, c.in-Ok.ensures.items)
    (All-take (Fits c.self.inside.work.now) c.args.most c.self.inside.waiting.items c.self.invariant)

pub returns-in-Err-clause-tasks : goal.returns-in-Err-clause-tasks
returns-in-Err-clause-tasks c = tt

pub returns-in-Err-clause-few : goal.returns-in-Err-clause-few
returns-in-Err-clause-few c = tt

pub returns-in-Err-clause-some : goal.returns-in-Err-clause-some
returns-in-Err-clause-some c = tt

pub returns-in-Err-clause-fits : goal.returns-in-Err-clause-fits
returns-in-Err-clause-fits c = tt

pub returns-in-Err-clause-rest : goal.returns-in-Err-clause-rest
returns-in-Err-clause-rest c = tt

pub returns-then-len-most-clause-err : goal.returns-then-len-most-clause-err
returns-then-len-most-clause-err c = tt

pub returns-in-Ok-clause-err : goal.returns-in-Ok-clause-err
returns-in-Ok-clause-err c = tt
