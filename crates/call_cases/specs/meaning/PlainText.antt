-- How the plain run of a work goes, as its text tells it, and the restarts that its faults make.
use Rattle.std.specs.Prelude.{List, length, flat_map}
use Rattle.gp_base.specs.declared.journal.Restart.{Restart}
use Rattle.dependence.specs.meaning.Restarts.{restarts}
use Rattle.task_ast.specs.meaning.Names.{records_of}
use Rattle.task_ast.specs.meaning.Layout.{cut}
use Rattle.task_ast.specs.meaning.Plain.{Subthread}
use Rattle.task_ast.specs.meaning.Run.{plain_order, plain_end, plain_records}
use Rattle.call_cases.specs.meaning.Recovering.{recovering_by}
use Rattle.call_cases.specs.meaning.Texts.{Ran}
use Rattle.call_cases.specs.meaning.Work.{ToDo}

-- the restarts of its run, which recovers as its command does
unfoldable pub restarts_in : ToDo → List Restart
restarts_in work = restarts (recovering_by work.command (plain_order work.program work.inputs work.limits)) work.faults

-- the plain run of what is to be done
unfoldable pub plain_ran : ToDo → Ran
plain_ran work =
    let run = plain_order work.program work.inputs work.limits in
    record {
      lines = flat_map (λ (s : Subthread). s.lines) run;
      end = plain_end work.program work.inputs work.limits;
      cells = plain_records work.program work.inputs work.limits;
      records = cut (records_of work.program.heads) (plain_records work.program work.inputs work.limits);
      subthreads = length run;
    }
