use Rattle.std.proofs.Common.{◌∙◌, ap}
use Rattle.task_ast.specs.Table.{is_known_end, next_of}
use Rattle.task_ast.specs.Turn.{met}
use Rattle.one_thread.specs.View.{table_of}
use Rattle.one_thread.proofs.Turning.{met-next}
use Rattle.one_thread.proofs.seats.Table.arrive.Goals as goal

pub returns-clause-table : goal.returns-clause-table
returns-clause-table c = c.open.ensures.table ∙ ap (λ there. met there c.args.barrier) c.come.ensures.table

pub returns-clause-live : goal.returns-clause-live
returns-clause-live c =
    ap (λ there. is_known_end (next_of there c.args.t)) (returns-clause-table c)
    ∙ ap is_known_end (met-next (table_of c.args.self.now) c.args.t c.args.barrier) ∙ c.requires.live
