use Rattle.std.proofs.Common.{drop}
use Rattle.task_code.specs.View.{plain_arm}
use Rattle.running_tests.specs.Named.{ArmBelow}
use Rattle.running_tests.proofs.named.+naming.Given as goal

abbrev pub invariant-arm_below-loop-deed : goal.invariant-arm_below-loop-deed
invariant-arm_below-loop-deed l = ArmBelow l.most (plain_arm (drop l.deed-index l.deeds)) → ArmBelow l.most (plain_arm l.deeds)
