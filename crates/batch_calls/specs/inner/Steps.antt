-- How the plain run of the code goes, as the text of a work tells it.
use Rattle.std.specs.Prelude.{ℕ, ℤ, List, [], ◌++◌, length, flat_map}
use Rattle.task_ast.specs.declared.tree.Head.{Head}
use Rattle.task_ast.specs.meaning.Names.{records_of}
use Rattle.task_ast.specs.meaning.Layout.{cut}
use Rattle.one_thread.specs.declared.run.Step.{Step}
use Rattle.one_thread.specs.declared.run.PlainRun.{PlainRun}
use Rattle.restart_log.specs.meaning.Lines.{printed}
use Rattle.call_cases.specs.meaning.Texts.{Ran, run_tail}

-- the lines that these subthreads print
abbrev pub lines_in : List Step → List (List ℤ)
lines_in steps = flat_map (λ (s : Step). s.prints) steps

-- how a run went of a program with these heads
abbrev pub ran_in : List Head → PlainRun → Ran
ran_in heads run =
    record {
      lines = lines_in run.order;
      end = run.end;
      cells = run.records;
      records = cut (records_of heads) run.records;
      subthreads = length run.order;
    }

-- what follows the first line of the text of such a run
abbrev pub rest_text : Ran → List ℕ
rest_text ran = printed ran.lines ++ run_tail ran [] 0
