use Rattle.std.proofs.Common.{◌≡◌, ◌+◌, drop}
use Rattle.task_ast.specs.meaning.Names.{cells_in, records_of}
use Rattle.rule_blame.proofs.heads.record_cells.Given as goal

abbrev pub invariant-loop-head : goal.invariant-loop-head
invariant-loop-head l =
    l.cells + cells_in (records_of (drop l.head-index l.heads)) ≡ cells_in (records_of l.heads)
