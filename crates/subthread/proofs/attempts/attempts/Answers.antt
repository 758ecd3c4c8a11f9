use Rattle.std.proofs.Common.{sym, subst}
use Rattle.subthread.specs.Tasks.{with_bundles}
use Rattle.subthread.specs.inner.Attempts.{IsWalk, IsAgreed, made_of}
use Rattle.subthread.specs.declared.attempts.Walk.{Walk}
use Rattle.subthread.proofs.Leavings.{if_ok}
use Rattle.subthread.proofs.Agreed.{agreed_walk, agreed_once}
use Rattle.subthread.proofs.attempts.attempts.Goals as goal

pub returns-in-Ok-clause-agreed : goal.returns-in-Ok-clause-agreed
returns-in-Ok-clause-agreed c =
    let task = with_bundles c.args.ground.now.bundles.value c.args.task.now in
    if_ok c.fed.result
    (λ walk same. subst (λ (w : Walk). IsAgreed c.args.work.now task (made_of w)) (sym same) c.in-Ok.ensures.agreed)
    c.fed.ensures.walk

pub returns-in-Ok-clause-walk : goal.returns-in-Ok-clause-walk
returns-in-Ok-clause-walk c =
    let ground = c.args.ground.now in
    let task = with_bundles ground.bundles.value c.args.task.now in
    if_ok c.fed.result
    (λ walk same spares. subst (IsWalk c.args.work.now task ground) (sym same)
    (agreed_walk c.args.work.now task ground c.in-Ok.walk spares c.in-Ok.ensures.agreed c.in-Ok.ensures.holds))
    c.fed.ensures.walk

pub returns-else-is_on-clause-agreed : goal.returns-else-is_on-clause-agreed
returns-else-is_on-clause-agreed c =
    let ground = c.args.ground.now in
    let task = with_bundles ground.bundles.value c.args.task.now in
    if_ok c.attempt.result
    (λ walk is. agreed_once c.args.work.now task ground walk (c.is_on.ensures.off c.if-is_on.false) is)
    c.attempt.ensures.walk
