use Rattle.std.proofs.Common.{sym, subst}
use Rattle.subthread.specs.Tasks.{with_bundles}
use Rattle.subthread.specs.inner.Attempts.{Makes, made_in}
use Rattle.subthread.proofs.Agreed.{third_agrees}
use Rattle.subthread.proofs.attempts.decided.Goals as goal

pub returns-in-Ok-clause-agreed : goal.returns-in-Ok-clause-agreed
returns-in-Ok-clause-agreed c =
    let work = c.args.work.now in
    let task = with_bundles c.args.ground.now.bundles.value c.args.task.now in
    third_agrees work task c.agreed-walk.result c.in-Ok.third (made_in c.args.one.now) (made_in c.in_ok-bundles.two)
    c.agreed-walk.ensures.walk c.agreed-walk.ensures.like c.requires.first
    (subst (Makes work task 1) (sym c.in_ok-bundles.ensures.left) c.requires.second) c.in-Ok.ensures.makes
