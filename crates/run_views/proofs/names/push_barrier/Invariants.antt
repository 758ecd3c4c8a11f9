use Rattle.std.proofs.Common.{◌≡◌, drop}
use Rattle.task_ast.specs.meaning.Names.{barriers_of}
use Rattle.run_views.specs.meaning.Order.{barrier_name}
use Rattle.run_views.proofs.names.push_barrier.Given as goal

-- the barrier is one that is left
abbrev pub invariant-loop-head : goal.invariant-loop-head
invariant-loop-head l = record {
  same : barrier_name (barriers_of (drop l.head-index l.heads)) l.left ≡ barrier_name (barriers_of l.heads) l.fn.barrier;
  kept : l.text.items ≡ l.fn.text.items;
}
