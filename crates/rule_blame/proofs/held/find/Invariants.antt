use Rattle.std.proofs.Common.{◌≡◌, drop}
use Rattle.task_ast.specs.meaning.Held.{has}
use Rattle.rule_blame.specs.Views.{pairs_of}
use Rattle.rule_blame.proofs.held.find.Given as goal

abbrev pub invariant-loop-taken : goal.invariant-loop-taken
invariant-loop-taken l =
    has (pairs_of (drop l.taken-index l.held)) (l.array, l.index) ≡ has (pairs_of l.held) (l.array, l.index)
