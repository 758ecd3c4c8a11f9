use Rattle.task_ast.specs.Plain.{tree_machine}
use Rattle.task_ast.proofs.PlainRuns.{end_from, count_from, tables_from}
use Rattle.task_ast.proofs.position_laws.onward_laws.Goals as goal

pub returns : goal.returns
returns c = record {
  end = λ program inputs limits. end_from (tree_machine program inputs limits);
  count = λ program inputs limits. count_from (tree_machine program inputs limits);
  tables = λ program inputs limits. tables_from (tree_machine program inputs limits);
}
