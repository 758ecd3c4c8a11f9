-- How a call ends that went on with a run, and what is promised of it.
use Rattle.std.proofs.Common.{◌≡◌, ℕ, List, [], ◌∷◌, ◌++◌, IfSome, refl, sym, ap, subst, ◌∙◌}
use Rattle.std.specs.declared.option.Option.{Option}
use Rattle.std.specs.declared.option.Option.TheVariants.{None, Some}
use Rattle.std.specs.declared.result.Result.{Result}
use Rattle.std.specs.declared.result.Result.TheVariants.{Ok, Err}
use Rattle.std.specs.Io.KnownBytes.{Appends}
use Rattle.gp_base.specs.declared.journal.Journal.{Journal}
use Rattle.task_ast.specs.meaning.Tree.{Name}
use Rattle.retirement_log.specs.meaning.Rows.{Retirement}
use Rattle.gp_resume.specs.declared.stop.ResumeStop.{ResumeStop}
use Rattle.gp_resume.specs.declared.stop.ResumeStop.TheVariants as stop
use Rattle.gp_resume.specs.Laws.{OneAnswerLaw}
use Rattle.gp_resume.specs.meaning.Reading.{LogAnswer, Rows, Broken, Unfit, IsAnswer}
use Rattle.command_line.specs.meaning.ResumeWords.{resumed_by}
use Rattle.call_cases.specs.declared.reading.Refusal.{Refusal}
use Rattle.call_cases.specs.declared.reading.Refusal.TheVariants as refused
use Rattle.call_cases.specs.meaning.Work.{Files, ToDo, Case, Refused}
use Rattle.call_cases.specs.meaning.Answers.{Change, IsEmpty}
use Rattle.call_cases.specs.Answers.{unwritten, RunEnds, finished}
use Rattle.call_cases.specs.meaning.Case.{IsCase}
use Rattle.call_cases.specs.Decided.{work_of}
use Rattle.call_cases.specs.meaning.Headline.{Headline}
use Rattle.call_cases.specs.declared.lines.Tool.TheVariants.{Gprs}
use Rattle.call_cases.specs.meaning.Lines.{input_line}
use Rattle.call_cases.specs.Refusals.{RefusesCase, RefusesShelf, IsInputRefused, RefusalEnds}
use Rattle.call_cases.proofs.Headlines.{none_taken, run_of_failed, run_of_memory, run_headline, refused_headline}
use Rattle.resume_calls.specs.declared.halted.Halted.{Halted}
use Rattle.resume_calls.specs.meaning.Resumption.{by_answer}
use Rattle.resume_calls.specs.meaning.ResumeCommands.{MayRead, rest_status, rest_text, asking, commands}
use Rattle.resume_calls.specs.inner.Halting.{Reader, answer_for, resumed_in, files_before, case_of}
use Rattle.resume_calls.specs.inner.Resting.{Resumes, EndsSo, EndsRest}
use Rattle.resume_calls.proofs.Sound.{commands_sound}

-- a file that is refused with a line
file_refuses : {A T : Type 0} (may_read : A → Name → Type 0) (asked : Option A) (Is : Option Files) (of : Files → Case T → Type 0)
    (names : List Name) (line : List ℕ)
    (failed failed' : List Name) (refusal : Refusal)
    → IfSome Is (λ told. of told (Refused 4 names line)) → failed' ≡ failed → IsInputRefused line refusal
    → IfSome Is (λ told. RefusesCase (of told) refusal) × RefusesShelf may_read asked failed failed' refusal
file_refuses may_read asked files of names line failed failed' refused.Usage known kept is = absurd is
file_refuses may_read asked files of names line failed failed' (refused.BadProgram told) known kept is = absurd is
file_refuses may_read asked None of names line failed failed' (refused.BadInput told) known kept is = (tt, kept)
file_refuses may_read asked (Some files) of names line failed failed' (refused.BadInput told) known kept is =
    ((names, subst (λ l. of files (Refused 4 names l)) (sym is) known), kept)
file_refuses may_read asked files of names line failed failed' (refused.ReadFault name) known kept is = absurd is
file_refuses may_read asked None of names line failed failed' refused.OutOfMemory known kept is = (tt, tt)
file_refuses may_read asked (Some files) of names line failed failed' refused.OutOfMemory known kept is = (tt, tt)

module _ (one : OneAnswerLaw) (reader : Reader) (words : List (List ℕ)) (files : Option Files) (failed failed' : List Name)
    (out err : Change) (status : ℕ) (journal : Journal) (halted : Halted)
    (some : resumed_by words ≡ Some (resumed_in halted)) (kept : failed' ≡ failed) (empty : IsEmpty journal) where
  abbrev work : ToDo
  work = work_of halted.request

  abbrev Promised : Type 0
  Promised = Headline commands (record {
    words = words;
    files = files;
    failed = failed;
    failed' = failed';
    out = out;
    err = err;
    status = status;
    journal = journal;
  })

  abbrev Known : LogAnswer → Type 0
  Known answer =
      IfSome files (λ told. IsCase asking words told (by_answer halted.log (files_before halted ++ halted.log ∷ []) work answer))

  abbrev Answered : LogAnswer → Type 0
  Answered answer = IsAnswer work.program work.inputs work.limits halted.text answer

  abbrev Put : Result ℕ ResumeStop → Type 0
  Put result = Resumes work.program work.inputs work.limits halted.text out result

  apart : (a b : LogAnswer) → Answered a → Answered b → a ≡ b
  apart a b is other = one work.program work.inputs work.limits halted.text a b is other

  -- the run went on
  went_on : (rows : List Retirement) → Known (Rows rows)
      → RunEnds (rest_text (record { work = work; rows = rows })) [] (rest_status (record { work = work; rows = rows })) out err status
      → Promised
  went_on rows known ends =
      run_headline commands commands_sound words files failed failed' out err status journal
      (files_before halted ++ halted.log ∷ []) (record { work = work; rows = rows })
      (resumed_in halted) refl some known kept (λ none. empty) (λ begins. cc begins) ends

  -- nothing was written
  untouched : (refusal : Refusal) → out.written' ≡ out.written → out.faults' ≡ out.faults
      → IfSome files (λ told. RefusesCase (IsCase asking words told) refusal)
      → RefusesShelf MayRead (resumed_by words) failed failed' refusal → RefusalEnds err refusal status → Promised
  untouched refusal written faults known shelf ends =
      subst (λ change. Headline commands
      (record {
        words = words;
        files = files;
        failed = failed;
        failed' = failed';
        out = change;
        err = err;
        status = status;
        journal = journal;
      })) same
      (refused_headline commands commands_sound words files failed failed' out.written out.faults
      err status journal refusal
      (λ none. absurd (let never : Some (resumed_in halted) ≡ None = sym some ∙ none in cc never))
      (λ nothing. kept) known shelf empty ends)
    where
      same : unwritten out.written out.faults ≡ out
      same =
          ap (λ w. record { written = out.written; written' = w; faults = out.faults; faults' = out.faults }) (sym written)
          ∙ ap (λ f. record { written = out.written; written' = out.written'; faults = out.faults; faults' = f }) (sym faults)

  -- the log is refused with this line
  log_refused : (line : List ℕ) (refusal : Refusal)
      → IfSome files (λ told. IsCase asking words told (Refused 4 (files_before halted ++ halted.log ∷ []) line))
      → out.written' ≡ out.written → out.faults' ≡ out.faults → IsInputRefused line refusal → RefusalEnds err refusal status → Promised
  log_refused line refusal known written faults is ends =
      let refuses =
      file_refuses MayRead (resumed_by words) files (λ told. IsCase asking words told)
      (files_before halted ++ halted.log ∷ []) line failed failed' refusal known kept is in
      untouched refusal written faults refuses.0 refuses.1 ends

  by_rows : (rows : List Retirement) → Answered (Rows rows) → Known (Rows rows) → (result : Result ℕ ResumeStop) → Put result
      → EndsSo halted.log result err status → Promised
  by_rows rows is known (Ok due) put ends =
      went_on rows known (subst (λ s. RunEnds (rest_text (record { work = work; rows = rows })) [] s out err status) (put.status rows is)
      (subst (RunEnds (rest_text (record { work = work; rows = rows })) [] due out err) (sym ends.0)
      (finished (put.all rows is) (subst (λ w. Appends err.written w []) (sym ends.1) (none_taken err.written)))))
  by_rows rows is known (Err (stop.LogLine number)) put ends = let never = apart (Rows rows) (Broken number) is put.log in cc never
  by_rows rows is known (Err (stop.LogFit number)) put ends = let never = apart (Rows rows) (Unfit number) is put.log in cc never
  by_rows rows is known (Err stop.WriteFault) put ends =
      went_on rows known (run_of_failed Gprs (rest_text (record { work = work; rows = rows })) []
      (rest_status (record { work = work; rows = rows })) out err status (put.part rows is) (put.cause refl) ends)
  by_rows rows is known (Err stop.OutOfMemory) put ends =
      went_on rows known (run_of_memory Gprs (rest_text (record { work = work; rows = rows })) []
      (rest_status (record { work = work; rows = rows })) out err status (put.part rows is) ends)

  -- the log was refused, or memory was out before
  no_rows : (answer : LogAnswer) → Answered answer → ((rows : List Retirement) → Rows rows ≡ answer → ⊥) → (result : Result ℕ ResumeStop)
      → Put result
      → (out.written' ≡ out.written) × (out.faults' ≡ out.faults)
  no_rows answer is other result put =
      let kept = put.unread (λ rows log. other rows (apart (Rows rows) answer log is)) in
      (kept.written, kept.faults)

  by_broken : (number : ℕ) → Answered (Broken number) → Known (Broken number) → (result : Result ℕ ResumeStop) → Put result
      → EndsSo halted.log result err status → Promised
  by_broken number is known (Ok due) put ends = let never = apart (Rows put.log.0) (Broken number) put.log.1 is in cc never
  by_broken number is known (Err (stop.LogLine other)) put ends =
      let same : Broken other ≡ Broken number = apart (Broken other) (Broken number) put.log is in
      let counted : other ≡ number = cc same in
      let nothing = no_rows (Broken number) is (λ rows never. cc never) (Err (stop.LogLine other)) put in
      log_refused (input_line halted.log 7 number) ends.0 known nothing.0 nothing.1
      (subst (λ n. IsInputRefused (input_line halted.log 7 n) ends.0) counted ends.1) ends.2
  by_broken number is known (Err (stop.LogFit other)) put ends = let never = apart (Unfit other) (Broken number) put.log is in cc never
  by_broken number is known (Err stop.WriteFault) put ends = let never = apart (Rows put.log.0) (Broken number) put.log.1 is in cc never
  by_broken number is known (Err stop.OutOfMemory) put ends =
      let nothing = no_rows (Broken number) is (λ rows never. cc never) (Err stop.OutOfMemory) put in
      log_refused (input_line halted.log 7 number) refused.OutOfMemory known nothing.0 nothing.1 tt ends

  by_unfit : (number : ℕ) → Answered (Unfit number) → Known (Unfit number) → (result : Result ℕ ResumeStop) → Put result
      → EndsSo halted.log result err status → Promised
  by_unfit number is known (Ok due) put ends = let never = apart (Rows put.log.0) (Unfit number) put.log.1 is in cc never
  by_unfit number is known (Err (stop.LogLine other)) put ends = let never = apart (Broken other) (Unfit number) put.log is in cc never
  by_unfit number is known (Err (stop.LogFit other)) put ends =
      let same : Unfit other ≡ Unfit number = apart (Unfit other) (Unfit number) put.log is in
      let counted : other ≡ number = cc same in
      let nothing = no_rows (Unfit number) is (λ rows never. cc never) (Err (stop.LogFit other)) put in
      log_refused (input_line halted.log 8 number) ends.0 known nothing.0 nothing.1
      (subst (λ n. IsInputRefused (input_line halted.log 8 n) ends.0) counted ends.1) ends.2
  by_unfit number is known (Err stop.WriteFault) put ends = let never = apart (Rows put.log.0) (Unfit number) put.log.1 is in cc never
  by_unfit number is known (Err stop.OutOfMemory) put ends =
      let nothing = no_rows (Unfit number) is (λ rows never. cc never) (Err stop.OutOfMemory) put in
      log_refused (input_line halted.log 8 number) refused.OutOfMemory known nothing.0 nothing.1 tt ends

  -- what went on, and ended so, meets the promise
  pub rest_headline : IfSome files (λ told. IsCase asking words told (case_of reader halted)) → EndsRest halted out err status
      → Promised
  rest_headline known ended =
      go (answer_for reader work halted.text) (reader.answers work.program work.inputs work.limits halted.text) known
    where
      go : (answer : LogAnswer) → Answered answer → Known answer → Promised
      go (Rows rows) is told = by_rows rows is told ended.put ended.resumes ended.ends
      go (Broken number) is told = by_broken number is told ended.put ended.resumes ended.ends
      go (Unfit number) is told = by_unfit number is told ended.put ended.resumes ended.ends
