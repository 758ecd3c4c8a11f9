-- What a call leaves that goes on from a log.
use Rattle.std.specs.Prelude.{◌≡◌, ◌↔◌, ℕ, ℤ, pos, fold, ◌≤◌, ◌<◌, ⊤, List, [], length, Option, Result, Ok, Err, IfOk, OnOk, Contains}
use Rattle.std.specs.List.{IsDistinct}
use Rattle.std.specs.Io.KnownBytes.{Appends}
use Rattle.gp_base.specs.meaning.Sinks.{Rose, AppendsPrefix}
use Rattle.gp_base.specs.declared.limits.Limits.{Limits}
use Rattle.gp_base.specs.declared.feed.Inputs.{Inputs}
use Rattle.task_ast.specs.meaning.Tree.{Program}
use Rattle.dependence.specs.JournalTests.{same_attempt}
use Rattle.reorder_list.specs.declared.report.Report.{Report}
use Rattle.restart_log.specs.meaning.Lines.{printed}
use Rattle.retirement_log.specs.meaning.Rows.{Retirement}
use Rattle.gp_resume.specs.declared.stop.ResumeStop.{ResumeStop}
use Rattle.gp_resume.specs.declared.stop.ResumeStop.TheVariants.{LogLine, LogFit, WriteFault, OutOfMemory}
use Rattle.gp_resume.specs.meaning.Reading.{Broken, Unfit, IsAnswer, IsLogOf}
use Rattle.gp_resume.specs.meaning.Resumed as rest
use Rattle.gp_resume.specs.meaning.Resumed.{end, final_records, count, bytes_before}

-- The log is refused at its first row that is none or doesn't fit, and only such a row; else it has rows, unless memory is out.
abbrev pub AnswersLog : {T : Type 0} → Program → Inputs → Limits → (bytes : List ℕ) → Result T ResumeStop → Type 0
AnswersLog program inputs limits bytes (Ok value) = (rows : List Retirement) × IsLogOf program inputs limits bytes rows
AnswersLog program inputs limits bytes (Err (LogLine number)) = IsAnswer program inputs limits bytes (Broken number)
AnswersLog program inputs limits bytes (Err (LogFit number)) = IsAnswer program inputs limits bytes (Unfit number)
AnswersLog program inputs limits bytes (Err WriteFault) = (rows : List Retirement) × IsLogOf program inputs limits bytes rows
AnswersLog program inputs limits bytes (Err OutOfMemory) = ⊤

-- the log is refused
abbrev pub IsRefused : {T : Type 0} → Result T ResumeStop → Type 0
IsRefused (Err (LogLine number)) = ⊤
IsRefused (Err (LogFit number)) = ⊤
IsRefused result = ⊥

-- the bytes of the text up to the lines of the last of these rows, or so many where there is none
abbrev pub bytes_from : ℤ → List Retirement → ℤ
bytes_from b rows = fold (λ (bytes : ℤ) (row : Retirement). row.bytes) b rows

-- How the run ended that went on from these rows, whose text had so many bytes: with the end, the records and the count that it has by
-- definition; nothing was restarted, no fault was there, and no journal was kept.
pub record ReportsRest (program : Program) (inputs : Inputs) (limits : Limits) (rows : List Retirement) (bytes : ℕ)
    (report : Report) : Type 0 where
  pub bytes_are : pos bytes ≡ bytes_before rows
  pub end : report.end ≡ end program inputs limits rows
  pub records : report.records ≡ final_records program inputs limits rows
  pub subthreads : report.subthreads ≡ count program inputs limits rows
  pub unused : report.unused ≡ 0
  pub events : report.journal.events ≡ []
  pub restarts : report.journal.restarts ≡ []

-- each position from one up to another was posted once, as its first attempt
pub record IsEachOnce (posted : List (ℕ × ℕ)) (from to : ℕ) : Type 0 where
  pub distinct : IsDistinct same_attempt posted
  pub these : (p attempt : ℕ) → Contains posted (p, attempt) ↔ (from ≤ p) × (p < to) × (attempt ≡ 0)

-- some of them were, each once
pub record AreSomeOnce (posted : List (ℕ × ℕ)) (from to : ℕ) : Type 0 where
  pub distinct : IsDistinct same_attempt posted
  pub among : (p attempt : ℕ) → Contains posted (p, attempt) → (from ≤ p) × (p < to) × (attempt ≡ 0)

-- the sink's count of faults does not fall, and a write fault is told only where it rose
pub record HasResumeCause {T : Type 0} (before after : ℕ) (result : Result T ResumeStop) : Type 0 where
  pub later : before ≤ after
  pub failed : result ≡ Err WriteFault → Rose before after

module _ (program : Program) (inputs : Inputs) (limits : Limits) (bytes : List ℕ) where
  -- the bytes of the log come to no rows
  abbrev pub HasNoRows : Type 0
  HasNoRows = (rows : List Retirement) → IsLogOf program inputs limits bytes rows → ⊥

  -- What comes of going on from a log with these bytes, by the sink's known bytes and its count of faults, before and
  -- after, and by what was posted: the lines that are still to come were written, or a part of them, and each position
  -- that is still to come was posted once, or some of them; nothing, where the log is refused.
  pub record DrivesRest (written written' : Option (List ℕ)) (faults faults' : ℕ) (posted : List (ℕ × ℕ))
      (result : Result (ℕ × Report) ResumeStop) : Type 0 where
    pub log : AnswersLog program inputs limits bytes result
    pub refused : IsRefused result → (written' ≡ written) × (faults' ≡ faults) × (posted ≡ [])
    pub unread : HasNoRows → (written' ≡ written) × (faults' ≡ faults)
    pub report : IfOk result (λ answer. (rows : List Retirement) → IsLogOf program inputs limits bytes rows
        → ReportsRest program inputs limits rows answer.0 answer.1)
    pub lines : OnOk result ((rows : List Retirement) → IsLogOf program inputs limits bytes rows
        → Appends written written' (printed (rest.lines program inputs limits rows)))
    pub partly : (rows : List Retirement) → IsLogOf program inputs limits bytes rows
        → AppendsPrefix written written' (printed (rest.lines program inputs limits rows))
    pub posts : OnOk result ((rows : List Retirement) → IsLogOf program inputs limits bytes rows
        → IsEachOnce posted (length rows) (count program inputs limits rows))
    pub some : (rows : List Retirement) → IsLogOf program inputs limits bytes rows
        → AreSomeOnce posted (length rows) (count program inputs limits rows)
    pub cause : HasResumeCause faults faults' result
