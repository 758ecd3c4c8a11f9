use Rattle.std.proofs.Common.{◌≡◌, drop}
use Rattle.task_ast.specs.meaning.Names.{records_of}
use Rattle.run_views.specs.meaning.Order.{cell_name}
use Rattle.run_views.proofs.names.push_record.Given as goal

-- the cell stands in a record that is left
abbrev pub invariant-loop-head : goal.invariant-loop-head
invariant-loop-head l = record {
  same : cell_name (records_of (drop l.head-index l.heads)) l.index ≡ cell_name (records_of l.heads) l.fn.cell;
  kept : l.text.items ≡ l.fn.text.items;
}
