-- The case of an audit goes on where that of its run would begin: with what comes of the file of the trace.
use Rattle.std.proofs.Common.{◌≡◌, ℕ, List, [], ◌∷◌, ◌++◌, IfSome, refl, sym, ap, subst}
use Rattle.std.specs.List.{Contains}
use Rattle.std.specs.declared.option.Option.{Option}
use Rattle.std.specs.declared.option.Option.TheVariants.{None, Some}
use Rattle.std.specs.declared.result.Result.{Result}
use Rattle.std.specs.declared.result.Result.TheVariants.{Ok, Err}
use Rattle.std.proofs.Common.{arith}
use Rattle.std.proofs.lemmas.List.Elements.{Contains-append_left, Contains-append_right}
use Rattle.gp_base.specs.meaning.Files.{bytes_of}
use Rattle.task_ast.specs.meaning.Tree.{Name}
use Rattle.gp_audit.specs.declared.line.TraceLine.{TraceLine}
use Rattle.gp_audit.specs.declared.verdict.Verdict.{Verdict}
use Rattle.gp_audit.specs.meaning.Verdicts.{IsVerdict}
use Rattle.gp_audit.proofs.Fronts.{verdict_once}
use Rattle.command_line.specs.meaning.AuditWords.{audited_by}
use Rattle.command_line.specs.declared.audit_words.Audited.{Audited}
use Rattle.call_cases.specs.declared.lines.Tool.TheVariants.{Gprs}
use Rattle.call_cases.specs.declared.reading.Refusal.{Refusal}
use Rattle.call_cases.specs.declared.reading.Refusal.TheVariants as refused
use Rattle.call_cases.specs.meaning.Work.{Files, ToDo, Case, Refused, Go, after_file}
use Rattle.call_cases.specs.meaning.Journals.{dependence_for}
use Rattle.call_cases.specs.meaning.Lines.{input_line}
use Rattle.call_cases.specs.meaning.RunCommands as run
use Rattle.call_cases.specs.meaning.Case.{IsCaseOf, names_read}
use Rattle.call_cases.specs.meaning.Laws.{HasOneCase}
use Rattle.call_cases.specs.Refusals.{RefusesCase, RefusesShelf, ReadsAmong}
use Rattle.call_cases.proofs.Further.{further, refuses_further, further_once}
use Rattle.call_cases.proofs.LastFiles.{file_shifts, file_some, file_one, file_reads}
use Rattle.call_cases.proofs.Loads.{only_one}
use Rattle.call_cases.proofs.OneCase.{SuppliesOne, has_one_case}
use Rattle.audit_calls.specs.meaning.Tried.{Judges, of_lines, of_row}
use Rattle.call_cases.specs.meaning.Headline.{ReadsNothing}
use Rattle.audit_calls.specs.meaning.AuditCommands.{MayRead, of_run, the_trace, asking, commands}
use Rattle.audit_calls.specs.inner.Trials.{Judge, tried_with, Traced, AnswersLines}
use Rattle.audit_calls.proofs.Readings.{Reads, one_reading}
use Rattle.audit_calls.proofs.SomeJudge.{some_reading, some_judge}

-- what comes of the bytes of a trace, where another file is read before
judges_shift : (file first : Name) (names : List Name) (work : ToDo) (bytes : List ℕ) (case : Case Verdict)
    → Judges file (first ∷ names) work bytes case → (found : Case Verdict) × Judges file names work bytes found
    × (case ≡ after_file first found)
judges_shift file first names work bytes case (of_lines {lines} {verdict} is judged) = (Go names verdict, of_lines is judged, refl)
judges_shift file first names work bytes case (of_row is) = (_, of_row is, refl)

judges_read : (file : Name) (names : List Name) (work : ToDo) (bytes : List ℕ) (case : Case Verdict) → Judges file names work bytes case
    → names_read case ≡ names
judges_read file names work bytes case (of_lines is judged) = refl
judges_read file names work bytes case (of_row is) = refl

-- one case comes of them
judges_some : (file : Name) (names : List Name) (work : ToDo) (bytes : List ℕ) → (case : Case Verdict) × Judges file names work bytes case
judges_some file names work bytes = let found = some_reading bytes in go found.0 found.1
  where
    go : (result : Result (List TraceLine) ℕ) → Reads bytes result → (case : Case Verdict) × Judges file names work bytes case
    go (Ok lines) is = (
      Go names (tried_with some_judge work lines),
      of_lines is
          (some_judge.judges (dependence_for work) work.faults lines),
    )
    go (Err row) is = (_, of_row is)

judges_one : (file : Name) (names : List Name) (work : ToDo) (bytes : List ℕ) (a b : Case Verdict) → Judges file names work bytes a
    → Judges file names work bytes b → a ≡ b
judges_one file names work bytes a b (of_lines {lines} {verdict} is judged) (of_lines {lines = lines'} {verdict = verdict'} is' judged') =
    let read = one_reading bytes (Ok lines) (Ok lines') is is' in
    let same : lines ≡ lines' = cc read in
    ap (Go names) (verdict_once (dependence_for work) work.faults lines verdict verdict' judged
    (subst (λ ls. IsVerdict (dependence_for work) work.faults ls verdict') (sym same) judged'))
judges_one file names work bytes a b (of_lines {lines} is judged) (of_row {row} broken) =
    let never = one_reading bytes (Ok lines) (Err row) is broken in absurd (cc never)
judges_one file names work bytes a b (of_row {row} broken) (of_lines {lines} is judged) =
    let never = one_reading bytes (Ok lines) (Err row) is broken in absurd (cc never)
judges_one file names work bytes a b (of_row {row} broken) (of_row {row = row'} broken') =
    let read = one_reading bytes (Err row) (Err row') broken broken' in
    let same : row ≡ row' = cc read in
    ap (λ r. Refused 4 names (input_line file 9 r)) same

-- what comes next, after what the run would read
abbrev Next : Audited → Files → List Name → ToDo → Case Verdict → Type 0
Next audited files names work case = Traced names audited.trace work (bytes_of files audited.trace) case

abbrev Comes : Audited → ToDo → List Name → List ℕ → Case Verdict → Type 0
Comes audited work names text case = Judges audited.trace names work text case

next_some : (audited : Audited) (files : Files) (names : List Name) (work : ToDo)
    → (case : Case Verdict) × Next audited files names work case
next_some audited files names work =
    file_some audited.trace (Comes audited work) (λ ns text. judges_some audited.trace ns work text) names (bytes_of files audited.trace)

next_one : (audited : Audited) (files : Files) (names : List Name) (work : ToDo) (a b : Case Verdict) → Next audited files names work a
    → Next audited files names work b → a ≡ b
next_one audited files names work a b is other =
    file_one audited.trace (Comes audited work) (λ ns text x y. judges_one audited.trace ns work text x y) names
    (bytes_of files audited.trace)
    a b is other

pub supplies_once : SuppliesOne asking
supplies_once = further_once Gprs (λ (a : Audited). a.run) audited_by Next next_some next_one

pub audit_case : HasOneCase asking
audit_case = has_one_case asking supplies_once

module _ (audited : Audited) (files : Files) where
  next_shifts : (first : Name) (names : List Name) (work : ToDo) (case : Case Verdict) → Next audited files (first ∷ names) work case
      → (found : Case Verdict) × Next audited files names work found × (case ≡ after_file first found)
  next_shifts first names work case is =
      file_shifts audited.trace (Comes audited work) (λ f ns text c. judges_shift audited.trace f ns work text c) first names
      (bytes_of files audited.trace) case is

  -- what was read before the trace, and the trace, were read
  next_reads : (names : List Name) (work : ToDo) (case : Case Verdict) → Next audited files names work case → (name : Name)
      → Contains (names ++ audited.trace ∷ []) name → Contains (names_read case) name
  next_reads names work case is name has =
      file_reads audited.trace (Comes audited work) (λ ns text c. judges_read audited.trace ns work text c) names
      (bytes_of files audited.trace)
      case is name has

  case_after : (names : List Name) (work : ToDo) (case : Case Verdict) → IsCaseOf run.asking audited.run files (Go names work)
      → Next audited files names work case → IsCaseOf asking audited files case
  case_after names work case is next =
      further Gprs (λ (a : Audited). a.run) audited_by Next audited files next_shifts (Go names work) case is next

  -- what the run is refused for, the audit is
  run_refused : (refusal : Refusal) → RefusesCase (IsCaseOf run.asking audited.run files) refusal
      → RefusesCase (IsCaseOf asking audited files) refusal
  run_refused refusal is =
      refuses_further Gprs (λ (a : Audited). a.run) audited_by Next audited files next_shifts (next_some audited files)
      (λ names work case next name has. next_reads names work case next name (Contains-append_left names (audited.trace ∷ []) name has))
      refusal is

  module _ (judge : Judge) where
    pub lines_case : (names : List Name) (work : ToDo) (lines : List TraceLine) → IsCaseOf run.asking audited.run files (Go names work)
        → AnswersLines judge names audited.trace work (bytes_of files audited.trace) (Ok lines)
        → IsCaseOf asking audited files (Go (names ++ audited.trace ∷ []) (tried_with judge work lines))
    lines_case names work lines is answers = case_after names work (Go (names ++ audited.trace ∷ []) (tried_with judge work lines)) is
        answers

    trace_refused : (names : List Name) (work : ToDo) (refusal : Refusal) → IsCaseOf run.asking audited.run files (Go names work)
        → AnswersLines judge names audited.trace work (bytes_of files audited.trace) (Err refusal)
        → RefusesCase (IsCaseOf asking audited files) refusal
    trace_refused names work refused.Usage is answers = absurd answers
    trace_refused names work (refused.BadProgram line) is answers = absurd answers
    trace_refused names work (refused.BadInput line) is answers = (
      names ++ audited.trace ∷ [],
      case_after names work (Refused 4 (names ++ audited.trace ∷ []) line) is answers,
    )
    trace_refused names work (refused.ReadFault name) is answers =
        let found = next_some audited files names work in (
          found.0,
          case_after names work found.0 is found.1,
          subst (λ told. Contains (names_read found.0) told) answers
              (next_reads names work found.0 found.1 audited.trace
              (Contains-append_right names (audited.trace ∷ []) audited.trace (0, omega arith, refl))),
        )
    trace_refused names work refused.OutOfMemory is answers = tt

-- the same where the files are told
pub run_refuses : (audited : Audited) (files : Option Files) (refusal : Refusal)
    → IfSome files (λ told. RefusesCase (IsCaseOf run.asking audited.run told) refusal)
    → IfSome files (λ told. RefusesCase (IsCaseOf asking audited told) refusal)
run_refuses audited None refusal is = tt
run_refuses audited (Some files) refusal is = run_refused audited files refusal is

module _ (judge : Judge) (audited : Audited) where
  pub lines_judged : (files known : Option Files) (names : List Name) (work : ToDo) (lines : List TraceLine) → known ≡ files
      → IfSome files (λ told. IsCaseOf run.asking audited.run told (Go names work))
      → IfSome known (λ told. AnswersLines judge names audited.trace work (bytes_of told audited.trace) (Ok lines))
      → IfSome files (λ told. IsCaseOf asking audited told (Go (names ++ audited.trace ∷ []) (tried_with judge work lines)))
  lines_judged None known names work lines same is answers = tt
  lines_judged (Some files) known names work lines same is answers =
      lines_case audited files judge names work lines is (subst
      (λ k. IfSome k (λ told. AnswersLines judge names audited.trace work (bytes_of told audited.trace) (Ok lines))) same answers)

  pub trace_refuses : (files known : Option Files) (names : List Name) (work : ToDo) (refusal : Refusal) → known ≡ files
      → IfSome files (λ told. IsCaseOf run.asking audited.run told (Go names work))
      → IfSome known (λ told. AnswersLines judge names audited.trace work (bytes_of told audited.trace) (Err refusal))
      → IfSome files (λ told. RefusesCase (IsCaseOf asking audited told) refusal)
  trace_refuses None known names work refusal same is answers = tt
  trace_refuses (Some files) known names work refusal same is answers =
      trace_refused audited files judge names work refusal is
      (subst (λ k. IfSome k (λ told. AnswersLines judge names audited.trace work (bytes_of told audited.trace) (Err refusal))) same
      answers)

-- what the shelf tells of a refusal
module _ (audited : Audited) (before now : List Name) where
  pub run_reads : (refusal : Refusal) → RefusesShelf run.MayRead (Some audited.run) before now refusal
      → RefusesShelf MayRead (Some audited) before now refusal
  run_reads refused.Usage is = let never = is.0 in cc never
  run_reads (refused.BadProgram line) is = is
  run_reads (refused.BadInput line) is = is
  run_reads (refused.ReadFault name) is = (is.0, is.1, of_run is.2)
  run_reads refused.OutOfMemory is = tt

  pub trace_reads : (T : Type 0) (refusal : Refusal) → ReadsAmong {T = T} (audited.trace ∷ []) before now (Err refusal)
      → RefusesShelf MayRead (Some audited) before now refusal
  trace_reads T refused.Usage is = absurd is
  trace_reads T (refused.BadProgram line) is = absurd is
  trace_reads T (refused.BadInput line) is = is
  trace_reads T (refused.ReadFault name) is = (is.1, is.2, subst (MayRead audited) (only_one audited.trace name is.0) the_trace)
  trace_reads T refused.OutOfMemory is = tt

-- words for which nothing is read are those of no command
pub nothing_read : {P : Type 0} (words : List (List ℕ)) → (audited_by words ≡ None → P) → ReadsNothing commands (audited_by words) → P
nothing_read {P} words to = go (audited_by words) to
  where
    go : (asked : Option Audited) → (asked ≡ None → P) → ReadsNothing commands asked → P
    go None holds nothing = holds refl
    go (Some audited) holds makes = cc makes
