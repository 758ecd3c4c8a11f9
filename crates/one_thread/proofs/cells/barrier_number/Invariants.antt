use Rattle.std.proofs.Common.{◌≡◌, ◌+◌, ◌≤◌, drop, option_map, position}
use Rattle.task_ast.specs.meaning.Names.{is_name, barriers_of}
use Rattle.one_thread.proofs.cells.barrier_number.Given as goal

abbrev pub invariant-loop-head : goal.invariant-loop-head
invariant-loop-head l = record {
  same : option_map (λ n. l.count + n) (position (λ other. is_name l.barrier other.0) (barriers_of (drop l.head-index l.heads)))
      ≡ position (λ other. is_name l.barrier other.0) (barriers_of l.heads);
  few : l.count ≤ l.head-index;
}
