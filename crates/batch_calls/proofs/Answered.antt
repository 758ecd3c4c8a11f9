-- Words that are read in any way: how what they ask for is answered, and that what is carried out for it meets the promise.
use Rattle.std.proofs.Common.{◌≡◌, ℕ, List, true, IfOk, IfSome, ap, sym, subst, refl, ◌∙◌}
use Rattle.std.specs.declared.option.Option.{Option}
use Rattle.std.specs.declared.option.Option.TheVariants.{None, Some}
use Rattle.std.specs.declared.result.Result.{Result}
use Rattle.std.specs.declared.result.Result.TheVariants.{Ok, Err}
use Rattle.task_ast.specs.meaning.Tree.{Name}
use Rattle.gp_base.specs.declared.journal.Journal.{Journal}
use Rattle.command_line.specs.declared.asked.Asked.{Asked}
use Rattle.command_line.proofs.KeepsNoLog.{KeepsNoLog, IsLogged}
use Rattle.call_cases.specs.declared.work.Request.{Request}
use Rattle.call_cases.specs.declared.reading.Refusal.{Refusal}
use Rattle.call_cases.specs.declared.reading.Refusal.TheVariants.{Usage as RefusedUsage, OutOfMemory}
use Rattle.call_cases.specs.meaning.Work.{Files, ToDo, makes_files}
use Rattle.call_cases.specs.meaning.Case.{IsCase, IsCaseOf}
use Rattle.call_cases.specs.meaning.Commands.{Commands, Logged}
use Rattle.call_cases.specs.meaning.Answers.{Change, IsEmpty}
use Rattle.call_cases.specs.meaning.Headline.{Call, Headline, ReadsNothing}
use Rattle.call_cases.specs.meaning.RunCommands.{MayRead}
use Rattle.call_cases.specs.meaning.RunCommands as gprs
use Rattle.call_cases.specs.Answers.{unwritten}
use Rattle.call_cases.specs.Decided.{case_of, program_in, files_read, work_of}
use Rattle.call_cases.specs.Refusals.{AnswersCase, TouchesShelf, RefusalEnds}
use Rattle.call_cases.proofs.Answering.{answers_map, asked_case, same_case, usage_case}
use Rattle.call_cases.proofs.Headlines.{run_headline, log_headline, refused_headline}
use Rattle.call_cases.proofs.OneCase.{run_case}
use Rattle.call_cases.proofs.RunSound as run
use Rattle.call_cases.specs.Commands.{AreSound}
use Rattle.batch_calls.specs.meaning.LogCommands.{log_for, TakesLog}
use Rattle.batch_calls.specs.inner.Planned.{Carries}
use Rattle.batch_calls.specs.inner.Reading.{asking_by, Answers}
use Rattle.batch_calls.proofs.LoggedEnds.{run_ends, log_ends}

-- what is asked comes to the same by whatever words it is asked for
same_answer : (reading : List (List ℕ) → Option Asked) (told : Option Files) (asked : Asked) (result : Result Request Refusal)
    → IfSome told (λ files. AnswersCase case_of (IsCaseOf gprs.asking asked (gprs.asking.files asked files)) result)
    → IfSome told (λ files. AnswersCase case_of (IsCaseOf (asking_by reading) asked ((asking_by reading).files asked files)) result)
same_answer reading None asked result is = tt
same_answer reading (Some files) asked result is =
    answers_map case_of (IsCaseOf gprs.asking asked (gprs.asking.files asked files))
    (IsCaseOf (asking_by reading) asked ((asking_by reading).files asked files))
    (λ case known. same_case gprs.asking reading asked (gprs.asking.files asked files) case known) result is

module _ (reading : List (List ℕ) → Option Asked) (words : List (List ℕ)) (files : Option Files) where
  -- the words are those of no command
  pub answers_none : (failed : List Name) (kept : Type 0) → kept → reading words ≡ None
      → Answers reading words files failed failed kept (Err RefusedUsage)
  answers_none failed kept same none = record {
    no_command = λ _. tt;
    unread = λ _. same;
    shelf = (none, refl);
    case = usage_case (asking_by reading) words files none;
    asked = tt;
  }

  -- memory is out
  pub answers_memory : (failed : List Name) (kept : Type 0) → kept → Answers reading words files failed failed kept (Err OutOfMemory)
  answers_memory failed kept same = record {
    no_command = λ _. tt;
    unread = λ _. same;
    shelf = tt;
    case = nothing files;
    asked = tt;
  }
    where
      nothing : (told : Option Files) → IfSome told (λ files. AnswersCase case_of (IsCase (asking_by reading) words files) (Err OutOfMemory))
      nothing None = tt
      nothing (Some told) = tt

  -- what they ask for is answered
  pub answers_asked : (failed failed' : List Name) (kept : Type 0) (asked : Asked) (result : Result Request Refusal)
      → reading words ≡ Some asked
      → (makes_files asked.command ≡ true → kept) → TouchesShelf MayRead (Some asked) failed failed' result
      → IfSome files (λ told. AnswersCase case_of (IsCaseOf gprs.asking asked (gprs.asking.files asked told)) result)
      → IfOk result (λ request. request.asked ≡ asked)
      → Answers reading words files failed failed' kept result
  answers_asked failed failed' kept asked result some unread shelf case same = record {
    no_command = λ none. absurd (let both : Some asked ≡ None = sym some ∙ none in cc);
    unread = λ nothing. unread (subst (ReadsNothing gprs.commands) some nothing);
    shelf = subst (λ a. TouchesShelf MayRead a failed failed' result) (sym some) shelf;
    case = asked_case (asking_by reading) words case_of files asked result some (same_answer reading files asked result case);
    asked = go result same;
  }
    where
      go : (answer : Result Request Refusal) → IfOk answer (λ request. request.asked ≡ asked)
          → IfOk answer (λ request. reading words ≡ Some request.asked)
      go (Ok request) is = some ∙ ap Some (sym is)
      go (Err refusal) is = tt

-- the promises of a call whose words are read so, without a log and with one
abbrev commands_by : (List (List ℕ) → Option Asked) → Commands Asked ToDo
commands_by reading = record gprs.commands { asking = asking_by reading }

abbrev logged_by : (List (List ℕ) → Option Asked) → Commands Asked ToDo
logged_by reading = record (commands_by reading) { log = Logged (record { whole = log_for; taken = TakesLog }) }

sound_by : (reading : List (List ℕ) → Option Asked) → AreSound (commands_by reading)
sound_by reading = run.sound_for gprs.commands (asking_by reading) (run_case reading) run.commands_sound

logged_sound : (reading : List (List ℕ) → Option Asked) → AreSound (logged_by reading)
logged_sound reading = run.sound_with (commands_by reading) (Logged (record { whole = log_for; taken = TakesLog })) (sound_by reading)

module _ (reading : List (List ℕ) → Option Asked) (words : List (List ℕ)) (files : Option Files) (failed failed' : List Name)
    (kept : Type 0) where
  module _ (out err : Change) (status : ℕ) (journal : Journal) (request : Request)
      (answers : Answers reading words files failed failed' kept (Ok request))
      (carries : Carries request.asked (work_of request) out err status journal) where
    abbrev done : Call
    done = record {
      words = words;
      files = files;
      failed = failed;
      failed' = failed';
      out = out;
      err = err;
      status = status;
      journal = journal;
    }

    -- what they ask for was carried out, where no log is kept
    pub run_headed : IfSome (reading words) (λ asked. KeepsNoLog asked.command) → Headline (commands_by reading) done
    run_headed none_kept =
        let none = subst (λ asked. IfSome asked (λ a. KeepsNoLog a.command)) answers.asked none_kept in
        run_headline (commands_by reading) (sound_by reading) words files failed failed' out err status journal
        (files_read request.asked (program_in request)) (work_of request) request.asked refl answers.asked answers.case answers.shelf
        carries.unjournalled
        (λ is. let made = carries.run is in (made.lawful, made.complete, made.retired))
        (run_ends request.asked (work_of request) out err status journal request.asked.command none carries.ends)

    -- the same, where one is kept
    pub log_headed : IfSome (reading words) IsLogged → Headline (logged_by reading) done
    log_headed kept_log =
        let logged = subst (λ asked. IfSome asked IsLogged) answers.asked kept_log in
        log_headline (logged_by reading) (logged_sound reading) (record { whole = log_for; taken = TakesLog }) words files failed failed'
        out err status journal (files_read request.asked (program_in request)) (work_of request) request.asked refl answers.asked
        answers.case answers.shelf carries.unjournalled
        (λ is. let made = carries.run is in (made.lawful, made.complete, made.retired))
        (log_ends request.asked (work_of request) out err status journal request.asked.command logged.command carries.ends)

  -- they are refused
  module _ (written : Option (List ℕ)) (faults : ℕ) (err : Change) (status : ℕ) (journal : Journal) (refusal : Refusal)
      (answers : Answers reading words files failed failed' kept (Err refusal)) (same : kept → failed' ≡ failed)
      (empty : IsEmpty journal) (ends : RefusalEnds err refusal status) where
    abbrev refused : Call
    refused = record {
      words = words;
      files = files;
      failed = failed;
      failed' = failed';
      out = unwritten written faults;
      err = err;
      status = status;
      journal = journal;
    }

    pub run_refused : Headline (commands_by reading) refused
    run_refused =
        refused_headline (commands_by reading) (sound_by reading) words files failed failed' written faults err status journal refusal
        answers.no_command (λ nothing. same (answers.unread nothing)) answers.case answers.shelf empty ends

    pub log_refused : Headline (logged_by reading) refused
    log_refused =
        refused_headline (logged_by reading) (logged_sound reading) words files failed failed' written faults err status journal refusal
        answers.no_command (λ nothing. same (answers.unread nothing)) answers.case answers.shelf empty ends
