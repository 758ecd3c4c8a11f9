use Rattle.std.proofs.Common.{◌≡◌, ◌++◌, drop, map}
use Rattle.task_ast.specs.meaning.Names.{barriers_of}
use Rattle.task_code.specs.inner.Tables.{targets}
use Rattle.task_code.proofs.tables.barrier_names.Given as goal

abbrev pub invariant-loop-head : goal.invariant-loop-head
invariant-loop-head l =
    targets l.names.items ++ map (λ n. n.0) (barriers_of (drop l.head-index l.heads)) ≡ map (λ n. n.0) (barriers_of l.heads)
