use Rattle.std.proofs.Common.{◌≡◌, drop}
use Rattle.task_ast.specs.meaning.Names.{locks_of}
use Rattle.run_views.specs.meaning.Order.{cell_name}
use Rattle.run_views.proofs.names.push_lock.Given as goal

-- the cell stands in an array that is left
abbrev pub invariant-loop-head : goal.invariant-loop-head
invariant-loop-head l = record {
  same : cell_name (locks_of (drop l.head-index l.heads)) l.left ≡ cell_name (locks_of l.heads) l.fn.lock;
  kept : l.text.items ≡ l.fn.text.items;
}
