-- What is compared with the text of a finished run.
use Rattle.std.specs.Prelude.{ℕ, ℤ, List, ◌++◌, codes}
use Rattle.gp_base.specs.declared.ending.End.TheVariants.{Finished}
use Rattle.task_ast.specs.declared.tree.Head.{Head}
use Rattle.task_ast.specs.meaning.Names.{records_of}
use Rattle.task_ast.specs.meaning.Layout.{cut}
use Rattle.reorder_list.specs.declared.report.Report.{Report}
use Rattle.restart_log.specs.meaning.Lines.{printed}
use Rattle.restart_log.specs.meaning.Tail.{tail_text}

-- the text of a finished run over records of these heads that printed these lines, and of which the report tells the rest
abbrev pub rendered : List Head → (lines : List (List ℤ)) → Report → List ℕ
rendered heads lines report =
    codes "output\n"
    ++ (printed lines ++ tail_text Finished (cut (records_of heads) report.records) report.subthreads report.journal.restarts report.unused)
