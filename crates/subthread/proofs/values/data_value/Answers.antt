use Rattle.std.proofs.Common.{◌∙◌}
use Rattle.task_code.specs.View.{plain_calc}
use Rattle.subthread.specs.inner.Running.{env_in}
use Rattle.subthread.proofs.Terms.{value_is}
use Rattle.subthread.proofs.values.data_value.Goals as goal

pub returns : goal.returns
returns c = c.value_in.ensures ∙ value_is c.args.regs.now (plain_calc c.args.c.now) (env_in c.args.ground.now c.args.ctl.now)
