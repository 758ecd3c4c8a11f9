use Rattle.task_ast.specs.Plain.{tree_machine}
use Rattle.task_ast.proofs.PlainRuns.{end_law, count_law, tables_law}
use Rattle.task_ast.proofs.laws.plain_laws.Goals as goal

pub returns : goal.returns
returns c = record {
  end = λ program inputs limits. end_law (tree_machine program inputs limits) program inputs limits;
  count = λ program inputs limits. count_law (tree_machine program inputs limits) program inputs limits;
  tables = λ program inputs limits n. (tables_law (tree_machine program inputs limits) program inputs limits n).0;
  whole = λ program inputs limits n. (tables_law (tree_machine program inputs limits) program inputs limits n).1;
}
