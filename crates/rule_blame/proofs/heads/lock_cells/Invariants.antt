use Rattle.std.proofs.Common.{◌≡◌, ◌+◌, drop}
use Rattle.task_ast.specs.meaning.Names.{cells_in, locks_of}
use Rattle.rule_blame.proofs.heads.lock_cells.Given as goal

abbrev pub invariant-loop-head : goal.invariant-loop-head
invariant-loop-head l =
    l.cells + cells_in (locks_of (drop l.head-index l.heads)) ≡ cells_in (locks_of l.heads)
