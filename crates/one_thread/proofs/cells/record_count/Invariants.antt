use Rattle.std.proofs.Common.{◌≡◌, ◌+◌, drop}
use Rattle.task_ast.specs.meaning.Names.{records_of, cells_in}
use Rattle.one_thread.proofs.cells.record_count.Given as goal

-- the cells counted, and those of the heads that are left
abbrev pub invariant-loop-head : goal.invariant-loop-head
invariant-loop-head l = l.count + cells_in (records_of (drop l.head-index l.heads)) ≡ cells_in (records_of l.heads)
