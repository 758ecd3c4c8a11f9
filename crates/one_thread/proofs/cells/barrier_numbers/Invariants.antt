use Rattle.std.proofs.Common.{◌≡◌, ◌++◌, drop, map}
use Rattle.task_ast.specs.meaning.Names.{barriers_of}
use Rattle.one_thread.proofs.cells.barrier_numbers.Given as goal

abbrev pub invariant-loop-head : goal.invariant-loop-head
invariant-loop-head l = l.numbers.items ++ map (λ b. b.1) (barriers_of (drop l.head-index l.heads)) ≡ map (λ b. b.1) (barriers_of l.heads)
