use Rattle.std.proofs.Common.{◌∙◌, ap, map, zip}
use Rattle.task_ast.specs.meaning.Names.{records_of, feeds_of, cells_in}
use Rattle.task_ast.specs.meaning.State.{number_at}
use Rattle.task_ast.specs.meaning.Table.{numbers}
use Rattle.one_thread.proofs.opening.first_shared.Goals as goal

pub returns-clause-cells : goal.returns-clause-cells
returns-clause-cells c =
    c.in_ok-cells.ensures ∙ ap (λ n. map (number_at c.as_slice.result.now) (numbers 0 n)) c.record_count.ensures
    ∙ ap (λ l. map (number_at l) (numbers 0 (cells_in (records_of c.args.heads.now)))) c.as_slice.ensures

pub returns-clause-feeds : goal.returns-clause-feeds
returns-clause-feeds c = c.in_ok-feeds.ensures ∙ ap (zip (feeds_of c.args.heads.now)) c.as_slice-2.ensures
