use Rattle.std.proofs.Common.{◌≡◌, take}
use Rattle.task_ast.specs.meaning.Held.{without}
use Rattle.rule_blame.specs.Views.{pairs_of}
use Rattle.rule_blame.proofs.held.without.Given as goal

abbrev pub invariant-loop-taken : goal.invariant-loop-taken
invariant-loop-taken l =
    pairs_of l.left.items ≡ without (pairs_of (take l.taken-index l.held)) (l.array, l.index)
