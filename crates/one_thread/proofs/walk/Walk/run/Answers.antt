use Rattle.std.proofs.Common.{◌≡◌, ◌-◌, suc, arith}
use Rattle.one_thread.proofs.Walks.{runs-spent, runs-turn, runs-stop}
use Rattle.one_thread.proofs.walk.Walk.run.Goals as goal

pub returns-then-left-eq0 : goal.returns-then-left-eq0
returns-then-left-eq0 g c =
    runs-spent c.args.self.now c.loop-body.self c.stretch.new.self c.args.turns c.loop-body.left c.in-Turned.body c.loop-body.invariant
    c.if-left-eq0.true c.in_ok-body.ensures.came
    (rw c.in-Turned.is at c.in_ok-body.ensures.halts)

pub loop-body-preserved : goal.loop-body-preserved
loop-body-preserved g c =
    let more : c.loop-body.left ≡ suc (c.loop-body.left - 1) = omega (arith, c.if-left-eq0.false) in
    runs-turn c.args.self.now c.loop-body.self c.stretch.new.self c.enter.new.self c.args.turns c.loop-body.left
    (c.loop-body.left - 1) c.in-Turned.body c.loop-body.invariant more c.in_ok-body.ensures.came
    (rw c.in-Turned.is at c.in_ok-body.ensures.halts) c.in_ok-enter-in-Turned.ensures

pub returns-in-Stopped : goal.returns-in-Stopped
returns-in-Stopped g c =
    runs-stop c.args.self.now c.loop-body.self c.stretch.new.self c.args.turns c.loop-body.left c.in-Stopped.next c.loop-body.invariant
    c.in_ok-body.ensures.came
    (rw c.in-Stopped.is at c.in_ok-body.ensures.halts)
