use Rattle.std.proofs.Common.{◌≡◌, ◌++◌, drop, map}
use Rattle.task_ast.specs.meaning.Names.{barriers_of}
use Rattle.task_code.proofs.lowering.barrier_numbers.Given as goal

abbrev pub invariant-loop-head : goal.invariant-loop-head
invariant-loop-head l =
    l.numbers ++ map (λ b. b.1) (barriers_of (drop l.head-index l.program.heads)) ≡ map (λ b. b.1) (barriers_of l.program.heads)
