use Rattle.task_code.specs.Reading.{calc_of_registers, deeds_arm}
use Rattle.task_code.specs.View.{plain_arm, plain_calc}
use Rattle.subthread.specs.inner.Running.{env_in}
use Rattle.subthread.proofs.Arms.{first_arm_hand, second_arm_hand}
use Rattle.subthread.proofs.deeds.arms_at_hand.Goals as goal

pub returns : goal.returns
returns c =
    let env = env_in c.args._ground.now c.args._ctl.now in
    let term = calc_of_registers (plain_calc c.args._c.now) env in
    let first = deeds_arm (plain_arm c.args._first.now) env in
    let second = deeds_arm (plain_arm c.args._second.now) env in
    record {
      first = first_arm_hand c.args._ground.now term first second c.requires;
      second = second_arm_hand c.args._ground.now term first second c.requires;
    }
