use Rattle.std.proofs.Common.{◌≡◌, ◌≤◌, ◌++◌, drop}
use Rattle.task_ast.specs.meaning.Names.{barriers_of}
use Rattle.run_views.specs.meaning.Deadlocks.{barrier_lines}
use Rattle.run_views.proofs.deadlocks.push_barriers.Given as goal

-- the lines so far, and those of the barriers that are left, are all
abbrev pub invariant-loop-head : goal.invariant-loop-head
invariant-loop-head l = record {
  same : l.text.items ++ barrier_lines (barriers_of (drop l.head-index l.heads)) l.barrier l.nexts
      ≡ l.fn.text.items ++ barrier_lines (barriers_of l.heads) 0 l.nexts;
  few : l.barrier ≤ l.head-index;
}
