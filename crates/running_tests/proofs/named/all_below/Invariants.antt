use Rattle.std.proofs.Common.{drop}
use Rattle.task_code.specs.View.{plain_instrs}
use Rattle.running_tests.specs.Named.{AllBelow}
use Rattle.running_tests.proofs.named.all_below.Given as goal

abbrev pub invariant-loop-instr : goal.invariant-loop-instr
invariant-loop-instr l = AllBelow l.most (plain_instrs (drop l.instr-index l.instrs)) → AllBelow l.most (plain_instrs l.instrs)
