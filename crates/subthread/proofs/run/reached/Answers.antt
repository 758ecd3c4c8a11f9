use Rattle.std.proofs.Common.{refl}
use Rattle.subthread.specs.Tasks.{with_bundles}
use Rattle.subthread.specs.inner.Running.{doing_of}
use Rattle.subthread.specs.inner.Leaving.{named_footprint}
use Rattle.subthread.proofs.Leavings.{walked, body_hand, if_ok}
use Rattle.subthread.proofs.run.reached.Goals as goal

pub run_body-requires-clause-named : goal.run_body-requires-clause-named
run_body-requires-clause-named c =
    body_hand c.args.work.now (with_bundles c.args.ground.now.bundles.value c.args.task.now) c.args.ground.now c.requires.is
    c.args.cursor.now c.begin.new.cursor
    c.in_ok-begin.ensures.begun.at_is c.requires.named

pub returns-clause-walked : goal.returns-clause-walked
returns-clause-walked c =
    if_ok c.run_body.result
    (λ next ran.
    walked c.args.work.now (with_bundles c.args.ground.now.bundles.value c.args.task.now) c.args.ground.now c.requires.is
    c.args.cursor.now c.begin.new.cursor c.run_body.new.cursor (doing_of c.args.doing.now) (doing_of c.begin.new.doing)
    (doing_of c.run_body.new.doing) c.args.names.now c.run_body.new.names next
    (named_footprint c.args.task.now.thread c.args.task.now.begins.sync c.args.task.now.child c.run_body.new.names)
    c.in_ok-begin.ensures.begun c.requires.none ran refl)
    c.run_body.ensures.ran
