-- The text that shows the order of a run: its subthreads, how it ends, and where no thread can go on who waits for what.
use Rattle.std.specs.Prelude.{ℕ, suc, List, ◌++◌, codes}
use Rattle.gp_base.specs.declared.feed.Inputs.{Inputs}
use Rattle.gp_base.specs.declared.limits.Limits.{Limits}
use Rattle.task_ast.specs.meaning.Tree.{Program}
use Rattle.task_ast.specs.meaning.Run.{plain_order, plain_end, plain_before}
use Rattle.run_views.specs.meaning.Order.{order_lines, end_line}
use Rattle.run_views.specs.meaning.Deadlocks.{deadlock_text}

-- the order of a program's run
unfoldable pub order_text : Program → Inputs → Limits → List ℕ
order_text program inputs limits =
    codes "order\n" ++ order_lines program.heads 0 (plain_order program inputs limits) ++ end_line (plain_end program inputs limits)
    ++ deadlock_text program.heads (plain_before program inputs limits (suc limits.subthreads)) (plain_end program inputs limits)
