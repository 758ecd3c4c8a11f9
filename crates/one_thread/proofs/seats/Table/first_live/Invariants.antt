use Rattle.std.proofs.Common.{◌≡◌, ◌-◌}
use Rattle.task_ast.specs.meaning.Table.{numbers}
use Rattle.task_ast.specs.Turn.{look}
use Rattle.one_thread.specs.View.{table_of}
use Rattle.one_thread.proofs.seats.Table.first_live.Given as goal

abbrev pub invariant-loop-t : goal.invariant-loop-t
invariant-loop-t l = look (table_of l.self) (numbers l.from (l.to - l.from)) ≡ look (table_of l.self) (numbers l.t (l.to - l.t))

abbrev pub decreases-loop-t : goal.decreases-loop-t
decreases-loop-t l = l.to - l.t
