-- How what is read for an audit stands to what there is to be judged.
use Rattle.std.specs.Prelude.{◌≡◌, ◌<◌, ◌≤◌, ℕ, List, [], ◌∷◌, ◌++◌, length, Option, Result, Ok, Err, ⊤}
use Rattle.gp_base.specs.declared.fault.Fault.{Fault}
use Rattle.gp_base.specs.declared.limits.TheConstants.{MOST_SUBTHREADS}
use Rattle.task_ast.specs.meaning.Tree.{Name}
use Rattle.dependence.specs.meaning.Restarts.{Dependence}
use Rattle.gp_audit.specs.declared.line.TraceLine.{TraceLine}
use Rattle.gp_audit.specs.declared.verdict.Verdict.{Verdict}
use Rattle.gp_audit.specs.meaning.Verdicts.{IsVerdict}
use Rattle.command_line.specs.declared.audit_words.Audited.{Audited}
use Rattle.call_cases.specs.declared.reading.Refusal.{Refusal}
use Rattle.call_cases.specs.declared.reading.Refusal.TheVariants.{BadInput, ReadFault, OutOfMemory}
use Rattle.call_cases.specs.meaning.Work.{ToDo, Case, Refused, Go}
use Rattle.call_cases.specs.meaning.InputFiles.{ReadsFile}
use Rattle.call_cases.specs.meaning.Journals.{dependence_for}
use Rattle.call_cases.specs.Decided.{program_in, files_read, work_of}
use Rattle.audit_calls.specs.declared.trial.Trial.{Trial}
use Rattle.audit_calls.specs.meaning.Tried.{Judges}

-- who judges lines, by the definition of that
pub record Judge : Type 0 where
  pub verdict_of : Dependence → List Fault → List TraceLine → Verdict
  pub judges : (dependence : Dependence) (faults : List Fault) (lines : List TraceLine)
      → IsVerdict dependence faults lines (verdict_of dependence faults lines)

-- the verdict on these lines, by the run that is said to have been
abbrev pub tried_with : Judge → ToDo → List TraceLine → Verdict
tried_with judge work lines = judge.verdict_of (dependence_for work) work.faults lines

-- the words that ask for a trial, and the verdict in it
abbrev pub audited_in : Trial → Audited
audited_in trial = record { run = trial.request.asked; trace = trial.trace }

abbrev pub tried_in : Judge → Trial → Verdict
tried_in judge trial = tried_with judge (work_of trial.request) trial.lines

-- the files that were read for it, and its case
abbrev pub files_tried : Trial → List Name
files_tried trial = files_read trial.request.asked (program_in trial.request) ++ trial.trace ∷ []

abbrev pub case_of : Judge → Trial → Case Verdict
case_of judge trial = Go (files_tried trial) (tried_in judge trial)

-- its numbers fit an audit
pub record IsShort (trial : Trial) : Type 0 where
  pub subthreads : trial.request.asked.limits.subthreads ≤ MOST_SUBTHREADS
  pub lines : length trial.lines < 4294967295

-- what comes of the file of a trace with these bytes, or of none, after these files
abbrev pub Traced : (names : List Name) → (file : Name) → ToDo → Option (List ℕ) → Case Verdict → Type 0
Traced names file work bytes = ReadsFile names file bytes (Judges file (names ++ file ∷ []) work)

-- the answer to such a file
abbrev pub AnswersLines : Judge → (names : List Name) → (file : Name) → ToDo → Option (List ℕ) → Result (List TraceLine) Refusal → Type 0
AnswersLines judge names file work bytes (Ok lines) = Traced names file work bytes (Go (names ++ file ∷ []) (tried_with judge work lines))
AnswersLines judge names file work bytes (Err (BadInput line)) = Traced names file work bytes (Refused 4 (names ++ file ∷ []) line)
AnswersLines judge names file work bytes (Err (ReadFault name)) = file ≡ name
AnswersLines judge names file work bytes (Err OutOfMemory) = ⊤
AnswersLines judge names file work bytes (Err refusal) = ⊥
