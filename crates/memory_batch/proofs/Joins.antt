-- What the text of a run tells, and its case.
use Rattle.std.proofs.Common.{◌≡◌, ◌∙◌, ℕ, ℤ, List, refl, sym, ap}
use Rattle.std.specs.Prelude.{length}
use Rattle.command_line.specs.meaning.Words.{asked_by}
use Rattle.command_line.specs.declared.asked.Command.{Command}
use Rattle.command_line.specs.declared.asked.Command.TheVariants.{Run}
use Rattle.task_ast.specs.meaning.Run.{plain_records}
use Rattle.call_cases.specs.declared.work.Request.{Request}
use Rattle.call_cases.specs.meaning.Work.{Files, ToDo}
use Rattle.call_cases.specs.meaning.Case.{IsCase, text_of}
use Rattle.call_cases.specs.meaning.RunCommands.{asking, commands, work_text}
use Rattle.call_cases.specs.meaning.PlainText.{plain_ran, restarts_in}
use Rattle.call_cases.specs.meaning.Texts.{run_text}
use Rattle.call_cases.specs.Decided.{case_of, work_of, program_in}
use Rattle.call_cases.proofs.OneCase.{run_case}
use Rattle.run_told.specs.Told.{WentSo, TellsRun}
use Rattle.memory_batch.specs.declared.run.Ended.{Ended}
use Rattle.memory_batch.specs.Runs.{IsRunTo}
use Rattle.memory_batch.specs.Sourced.{sourced}
use Rattle.memory_batch.specs.Comes.{ComesTo, TellsSourced}

-- the run of what is to be done went as its text tells
went_so : (work : ToDo) (lines : List (List ℤ)) (cells : List ℤ) (text : List ℕ)
    → TellsRun work.program.heads lines cells text → text ≡ run_text (plain_ran work) (restarts_in work) (length work.faults)
    → WentSo work.program.heads lines cells (plain_ran work)
unfolding plain_ran
went_so work lines cells text tells has =
    tells (plain_ran work) (plain_records work.program work.inputs work.limits) (restarts_in work) (length work.faults) refl has

pub comes_to : (words : List (List ℕ)) (files : Files) (request : Request) (ended : Ended) (lines : List (List ℤ)) (cells : List (List ℤ))
    → IsRunTo words files ended → IsCase asking words files (case_of request) → request.asked.command ≡ Run
    → TellsSourced (program_in request).heads lines cells ended.text → ComesTo words files lines cells ended.text
comes_to words files request ended lines cells ran is_case runs told =
    let same = (run_case asked_by).one words files ran.case (case_of request) ran.is_case is_case in
    let work = work_of request in
    let whole : ended.text ≡ text_of commands (case_of request) = ran.writes ∙ ap (text_of commands) same in
    let text : ended.text ≡ run_text (plain_ran work) (restarts_in work) (length work.faults) =
    whole ∙ ap (λ (c : Command). work_text c work) runs in
    let went = went_so work lines told.all ended.text told.tells text in
    record {
      names = _;
      work = work;
      is_case = is_case;
      is_run = runs;
      finishes = went.finished;
      prints = went.printed_lines;
      leaves = ap (sourced work.program.heads) went.left ∙ sym told.are;
      writes = whole;
    }
