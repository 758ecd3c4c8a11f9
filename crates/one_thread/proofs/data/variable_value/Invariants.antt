use Rattle.std.proofs.Common.{◌≡◌, drop}
use Rattle.task_ast.specs.meaning.Value.{value_at}
use Rattle.one_thread.proofs.data.variable_value.Given as goal

abbrev pub invariant-loop-pair : goal.invariant-loop-pair
invariant-loop-pair l = value_at (drop l.pair-index l.env.names) l.x ≡ value_at l.env.names l.x
