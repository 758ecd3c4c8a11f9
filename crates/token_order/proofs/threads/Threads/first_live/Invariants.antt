use Rattle.std.proofs.Common.{◌≡◌, ◌-◌}
use Rattle.task_ast.specs.meaning.Table.{numbers}
use Rattle.task_ast.specs.Turn.{look}
use Rattle.token_order.specs.View.{table}
use Rattle.token_order.proofs.threads.Threads.first_live.Given as goal

abbrev pub invariant-loop-t : goal.invariant-loop-t
invariant-loop-t l = look (table l.self) (numbers l.from (l.to - l.from)) ≡ look (table l.self) (numbers l.t (l.to - l.t))

abbrev pub decreases-loop-t : goal.decreases-loop-t
decreases-loop-t l = l.to - l.t
