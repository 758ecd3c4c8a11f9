use Rattle.std.proofs.Common.{◌≡◌, ◌++◌, drop, map}
use Rattle.task_ast.specs.declared.tree.Head.{Head}
use Rattle.task_ast.specs.meaning.Names.{head_name}
use Rattle.task_ast.specs.meaning.Declarations.{head_line}
use Rattle.rule_blame.specs.Views.{entries_in}
use Rattle.rule_blame.proofs.entries.push_heads.Given as goal

abbrev pub invariant-loop-head : goal.invariant-loop-head
invariant-loop-head l =
    entries_in l.entries.items ++ map (λ (h : Head). (head_name h, head_line h)) (drop l.head-index l.heads)
    ≡ entries_in l.initial.entries.items ++ map (λ (h : Head). (head_name h, head_line h)) l.heads
