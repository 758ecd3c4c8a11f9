-- The case of what is to be shown goes on where that of its run would begin: with what comes of the file of the trace.
use Rattle.std.proofs.Common.{◌≡◌, ◌∙◌, ℕ, List, [], ◌∷◌, ◌++◌, IfSome, refl, sym, ap, subst, inl, inr, arith}
use Rattle.std.specs.List.{Contains}
use Rattle.std.specs.declared.option.Option.{Option}
use Rattle.std.specs.declared.option.Option.TheVariants.{None, Some}
use Rattle.std.specs.declared.result.Result.{Result}
use Rattle.std.specs.declared.result.Result.TheVariants.{Ok, Err}
use Rattle.std.proofs.lemmas.List.Elements.{Contains-append_left, Contains-append_right}
use Rattle.gp_base.specs.meaning.Files.{bytes_of}
use Rattle.task_ast.specs.meaning.Tree.{Name}
use Rattle.gp_audit.specs.declared.line.TraceLine.{TraceLine}
use Rattle.gp_audit.specs.declared.verdict.Verdict.{Verdict}
use Rattle.gp_audit.specs.declared.verdict.Verdict.TheVariants.{Lawful, Unlawful, Incomplete}
use Rattle.gp_audit.specs.meaning.Lines.{IsTrace}
use Rattle.gp_audit.specs.meaning.Verdicts.{LawfulLines, IsVerdict}
use Rattle.gp_audit.proofs.Fronts.{verdict_once}
use Rattle.call_cases.specs.declared.lines.Tool.TheVariants.{GprsView}
use Rattle.call_cases.specs.declared.reading.Refusal.{Refusal}
use Rattle.call_cases.specs.declared.reading.Refusal.TheVariants as refused
use Rattle.call_cases.specs.meaning.Work.{Files, ToDo, Case, Refused, Go, after_file}
use Rattle.call_cases.specs.meaning.Journals.{dependence_for}
use Rattle.call_cases.specs.meaning.Lines.{input_line}
use Rattle.call_cases.specs.meaning.RunCommands as run
use Rattle.call_cases.specs.meaning.Case.{IsCaseOf, names_read}
use Rattle.call_cases.specs.meaning.Laws.{HasOneCase}
use Rattle.call_cases.specs.Refusals.{RefusesCase, RefusesShelf, ReadsAmong}
use Rattle.call_cases.specs.meaning.Headline.{ReadsNothing}
use Rattle.call_cases.proofs.Further.{further, refuses_further, further_once}
use Rattle.call_cases.proofs.LastFiles.{file_shifts, file_some, file_one, file_reads}
use Rattle.call_cases.proofs.Loads.{only_one}
use Rattle.call_cases.proofs.OneCase.{has_one_case}
use Rattle.audit_calls.proofs.Readings.{Reads, one_reading}
use Rattle.audit_calls.proofs.SomeJudge.{some_reading, some_verdict, lawful_verdict}
use Rattle.run_picture.specs.meaning.Elements.{Layout}
use Rattle.view_calls.specs.declared.words.Viewed.{Viewed}
use Rattle.view_calls.specs.meaning.Commands.{MayRead, of_run, the_trace, viewed_by, asking, commands}
use Rattle.view_calls.specs.meaning.Sights.{Sight, Sees, of_lines, of_unlawful, of_row, WithTrace}
use Rattle.view_calls.specs.inner.Answers.{AnswersLines}

-- what comes of the bytes of a trace
module _ (file : Name) (position : Option ℕ) (work : ToDo) where
  abbrev Comes : List Name → List ℕ → Case Sight → Type 0
  Comes names text case = Sees file names position work text case

  abbrev Judged : List TraceLine → Verdict → Type 0
  Judged lines verdict = IsVerdict (dependence_for work) work.faults lines verdict

  sees_shift : (first : Name) (names : List Name) (text : List ℕ) (case : Case Sight) → Comes (first ∷ names) text case
      → (found : Case Sight) × Comes names text found × (case ≡ after_file first found)
  sees_shift first names text case (of_lines is lawful) = (_, of_lines is lawful, refl)
  sees_shift first names text case (of_unlawful row is judged) = (_, of_unlawful row is judged, refl)
  sees_shift first names text case (of_row is) = (_, of_row is, refl)

  sees_read : (names : List Name) (text : List ℕ) (case : Case Sight) → Comes names text case → names_read case ≡ names
  sees_read names text case (of_lines is lawful) = refl
  sees_read names text case (of_unlawful row is judged) = refl
  sees_read names text case (of_row is) = refl

  sees_some : (names : List Name) (text : List ℕ) → (case : Case Sight) × Comes names text case
  sees_some names text = let found = some_reading text in go found.0 found.1
    where
      by_verdict : (lines : List TraceLine) (verdict : Verdict) → IsTrace text lines → Judged lines verdict
          → (case : Case Sight) × Comes names text case
      by_verdict lines Lawful is judged = (_, of_lines is judged.0)
      by_verdict lines (Unlawful number) is judged = (_, of_unlawful number is judged)
      by_verdict lines Incomplete is judged = (_, of_lines is judged.0)

      go : (result : Result (List TraceLine) ℕ) → Reads text result → (case : Case Sight) × Comes names text case
      go (Ok lines) is = let found = some_verdict (dependence_for work) work.faults lines in by_verdict lines found.0 is found.1
      go (Err row) is = (_, of_row is)

  -- lines that are lawful have no first one that is not
  never_unlawful : (lines : List TraceLine) (row : ℕ) → LawfulLines (dependence_for work) work.faults lines → Judged lines (Unlawful row)
      → ⊥
  never_unlawful lines row lawful judged =
      elim (lawful_verdict (dependence_for work) work.faults lines lawful) [
        | inl whole ↦ (let never = verdict_once (dependence_for work) work.faults lines (Unlawful row) Lawful judged whole in cc never)
        | inr ends ↦ (let never = verdict_once (dependence_for work) work.faults lines (Unlawful row) Incomplete judged ends in cc never)
      ]

  same_lines : (text : List ℕ) (lines others : List TraceLine) → IsTrace text lines → IsTrace text others → lines ≡ others
  same_lines text lines others is other =
      let read = one_reading text (Ok lines) (Ok others) is other in let same : lines ≡ others = cc read in same

  refused_at : (names : List Name) (row other : ℕ) → row ≡ other
      → ◌≡◌ {A = Case Sight} (Refused 4 names (input_line file 1 row)) (Refused 4 names (input_line file 1 other))
  refused_at names row other same = ap (λ r. Refused 4 names (input_line file 1 r)) same

  sees_one : (names : List Name) (text : List ℕ) (a b : Case Sight) → Comes names text a → Comes names text b → a ≡ b
  sees_one names text a b (of_lines {lines} is lawful) (of_lines {lines = others} is' lawful') =
      ap (λ ls. Go names (record { work = work; position = position; trace = Some ls })) (same_lines text lines others is is')
  sees_one names text a b (of_lines {lines} is lawful) (of_unlawful {lines = others} row is' judged) =
      absurd (never_unlawful lines row lawful (subst (λ ls. Judged ls (Unlawful row)) (sym (same_lines text lines others is is')) judged))
  sees_one names text a b (of_lines {lines} is lawful) (of_row {row} is') =
      let never = one_reading text (Ok lines) (Err row) is is' in absurd (cc never)
  sees_one names text a b (of_unlawful {lines = others} row is' judged) (of_lines {lines} is lawful) =
      absurd (never_unlawful lines row lawful (subst (λ ls. Judged ls (Unlawful row)) (sym (same_lines text lines others is is')) judged))
  sees_one names text a b (of_unlawful {lines} row is judged) (of_unlawful {lines = others} other is' judged') =
      let once =
      verdict_once (dependence_for work) work.faults lines (Unlawful row) (Unlawful other) judged
      (subst (λ ls. Judged ls (Unlawful other)) (sym (same_lines text lines others is is')) judged') in
      let same : row ≡ other = cc once in
      refused_at names row other same
  sees_one names text a b (of_unlawful {lines} row is judged) (of_row {row = other} is') =
      let never = one_reading text (Ok lines) (Err other) is is' in absurd (cc never)
  sees_one names text a b (of_row {row} is) (of_lines {lines} is' lawful) =
      let never = one_reading text (Ok lines) (Err row) is' is in absurd (cc never)
  sees_one names text a b (of_row {row} is) (of_unlawful {lines} other is' judged) =
      let never = one_reading text (Ok lines) (Err row) is' is in absurd (cc never)
  sees_one names text a b (of_row {row} is) (of_row {row = other} is') =
      let read = one_reading text (Err row) (Err other) is is' in
      let same : row ≡ other = cc read in
      refused_at names row other same

-- what comes of the trace, where words name one
module _ (files : Files) (position : Option ℕ) (work : ToDo) where
  with_shifts : (trace : Option Name) (first : Name) (names : List Name) (case : Case Sight)
      → WithTrace trace files position (first ∷ names) work case
      → (found : Case Sight) × WithTrace trace files position names work found × (case ≡ after_file first found)
  with_shifts None first names case is = (Go names (record { work = work; position = position; trace = None }), refl, is)
  with_shifts (Some file) first names case is =
      file_shifts file (Comes file position work) (sees_shift file position work) first names (bytes_of files file) case is

  with_some : (trace : Option Name) (names : List Name) → (case : Case Sight) × WithTrace trace files position names work case
  with_some None names = (Go names (record { work = work; position = position; trace = None }), refl)
  with_some (Some file) names = file_some file (Comes file position work) (sees_some file position work) names (bytes_of files file)

  with_one : (trace : Option Name) (names : List Name) (a b : Case Sight) → WithTrace trace files position names work a
      → WithTrace trace files position names work b → a ≡ b
  with_one None names a b is other = is ∙ sym other
  with_one (Some file) names a b is other =
      file_one file (Comes file position work) (sees_one file position work) names (bytes_of files file) a b is other

  -- what was read before the trace, and the trace, were read
  trace_reads_all : (file : Name) (names : List Name) (case : Case Sight) → WithTrace (Some file) files position names work case
      → (name : Name)
      → Contains (names ++ file ∷ []) name → Contains (names_read case) name
  trace_reads_all file names case is name has =
      file_reads file (Comes file position work) (sees_read file position work) names (bytes_of files file) case is name has

  with_reads : (trace : Option Name) (names : List Name) (case : Case Sight) → WithTrace trace files position names work case
      → (name : Name)
      → Contains names name → Contains (names_read case) name
  with_reads None names case is name has = subst (λ c. Contains (names_read c) name) (sym is) has
  with_reads (Some file) names case is name has = trace_reads_all file names case is name (Contains-append_left names (file ∷ []) name has)

abbrev Next : Viewed → Files → List Name → ToDo → Case Sight → Type 0
Next viewed files names work case = WithTrace viewed.trace files viewed.position names work case

pub view_case : HasOneCase asking
view_case =
    has_one_case asking
    (further_once GprsView (λ (v : Viewed). v.run) viewed_by Next
    (λ viewed files names work. with_some files viewed.position work viewed.trace names)
    (λ viewed files names work a b is other. with_one files viewed.position work viewed.trace names a b is other))

module _ (viewed : Viewed) (files : Files) where
  next_shifts : (first : Name) (names : List Name) (work : ToDo) (case : Case Sight) → Next viewed files (first ∷ names) work case
      → (found : Case Sight) × Next viewed files names work found × (case ≡ after_file first found)
  next_shifts first names work case is = with_shifts files viewed.position work viewed.trace first names case is

  case_after : (names : List Name) (work : ToDo) (case : Case Sight) → IsCaseOf run.asking viewed.run files (Go names work)
      → Next viewed files names work case → IsCaseOf asking viewed files case
  case_after names work case is next =
      further GprsView (λ (v : Viewed). v.run) viewed_by Next viewed files next_shifts (Go names work) case is next

  -- what the run is refused for, this is
  run_refused : (refusal : Refusal) → RefusesCase (IsCaseOf run.asking viewed.run files) refusal
      → RefusesCase (IsCaseOf asking viewed files) refusal
  run_refused refusal is =
      refuses_further GprsView (λ (v : Viewed). v.run) viewed_by Next viewed files next_shifts
      (λ names work. with_some files viewed.position work viewed.trace names)
      (λ names work case next name has. with_reads files viewed.position work viewed.trace names case next name has) refusal is

  case_with : (trace : Option Name) → viewed.trace ≡ trace → (names : List Name) (work : ToDo) (case : Case Sight)
      → IsCaseOf run.asking viewed.run files (Go names work) → WithTrace trace files viewed.position names work case
      → IsCaseOf asking viewed files case
  case_with trace same names work case is next =
      case_after names work case is (subst (λ t. WithTrace t files viewed.position names work case) (sym same) next)

  module _ (file : Name) (same : viewed.trace ≡ Some file) (names : List Name) (work : ToDo)
      (is : IsCaseOf run.asking viewed.run files (Go names work)) where
    lines_case : (lines : List TraceLine) → AnswersLines names file viewed.position work (bytes_of files file) (Ok lines)
        → IsCaseOf asking viewed files (Go (names ++ file ∷ []) (record { work = work; position = viewed.position; trace = Some lines }))
    lines_case lines answers =
        case_with (Some file) same names work (Go (names ++ file ∷ []) (record { work = work; position = viewed.position; trace = Some lines }))
        is answers

    trace_refused : (refusal : Refusal) → AnswersLines names file viewed.position work (bytes_of files file) (Err refusal)
        → RefusesCase (IsCaseOf asking viewed files) refusal
    trace_refused refused.Usage answers = absurd answers
    trace_refused (refused.BadProgram line) answers = absurd answers
    trace_refused (refused.BadInput line) answers = (
      names ++ file ∷ [],
      case_with (Some file) same names work (Refused 4 (names ++ file ∷ []) line) is answers,
    )
    trace_refused (refused.ReadFault name) answers =
        let found = with_some files viewed.position work (Some file) names in (
          found.0,
          case_with (Some file) same names work found.0 is found.1,
          subst (λ told. Contains (names_read found.0) told) answers
              (trace_reads_all files viewed.position work file names found.0 found.1 file
              (Contains-append_right names (file ∷ []) file (0, omega arith, refl))),
        )
    trace_refused refused.OutOfMemory answers = tt

-- the same where the files are told
module _ (viewed : Viewed) where
  pub run_refuses : (files : Option Files) (refusal : Refusal)
      → IfSome files (λ told. RefusesCase (IsCaseOf run.asking viewed.run told) refusal)
      → IfSome files (λ told. RefusesCase (IsCaseOf asking viewed told) refusal)
  run_refuses None refusal is = tt
  run_refuses (Some files) refusal is = run_refused viewed files refusal is

  pub run_viewed : viewed.trace ≡ None → (files : Option Files) (names : List Name) (work : ToDo)
      → IfSome files (λ told. IsCaseOf run.asking viewed.run told (Go names work))
      → IfSome files (λ told. IsCaseOf asking viewed told
      (Go names (record { work = work; position = viewed.position; trace = None })))
  run_viewed same None names work is = tt
  run_viewed same (Some files) names work is = case_with viewed files None same names work
      (Go names (record { work = work; position = viewed.position; trace = None })) is refl

  module _ (file : Name) (same : viewed.trace ≡ Some file) (names : List Name) (work : ToDo) where
    pub lines_viewed : (files known : Option Files) (lines : List TraceLine) → known ≡ files
        → IfSome files (λ told. IsCaseOf run.asking viewed.run told (Go names work))
        → IfSome known (λ told. AnswersLines names file viewed.position work (bytes_of told file) (Ok lines))
        → IfSome files (λ told. IsCaseOf asking viewed told
        (Go (names ++ file ∷ []) (record { work = work; position = viewed.position; trace = Some lines })))
    lines_viewed None known lines kept is answers = tt
    lines_viewed (Some files) known lines kept is answers =
        lines_case viewed files file same names work is lines
        (subst (λ k. IfSome k (λ told. AnswersLines names file viewed.position work (bytes_of told file) (Ok lines))) kept answers)

    pub trace_refuses : (files known : Option Files) (refusal : Refusal) → known ≡ files
        → IfSome files (λ told. IsCaseOf run.asking viewed.run told (Go names work))
        → IfSome known (λ told. AnswersLines names file viewed.position work (bytes_of told file) (Err refusal))
        → IfSome files (λ told. RefusesCase (IsCaseOf asking viewed told) refusal)
    trace_refuses None known refusal kept is answers = tt
    trace_refuses (Some files) known refusal kept is answers =
        trace_refused viewed files file same names work is refusal
        (subst (λ k. IfSome k (λ told. AnswersLines names file viewed.position work (bytes_of told file) (Err refusal))) kept answers)

-- what the shelf tells of a refusal
module _ (viewed : Viewed) (before now : List Name) where
  pub run_reads : (refusal : Refusal) → RefusesShelf run.MayRead (Some viewed.run) before now refusal
      → RefusesShelf MayRead (Some viewed) before now refusal
  run_reads refused.Usage is = let never = is.0 in cc never
  run_reads (refused.BadProgram line) is = is
  run_reads (refused.BadInput line) is = is
  run_reads (refused.ReadFault name) is = (is.0, is.1, of_run is.2)
  run_reads refused.OutOfMemory is = tt

  pub trace_reads : (file : Name) → viewed.trace ≡ Some file → (T : Type 0) (refusal : Refusal)
      → ReadsAmong {T = T} (file ∷ []) before now (Err refusal)
      → RefusesShelf MayRead (Some viewed) before now refusal
  trace_reads file same T refused.Usage is = absurd is
  trace_reads file same T (refused.BadProgram line) is = absurd is
  trace_reads file same T (refused.BadInput line) is = is
  trace_reads file same T (refused.ReadFault name) is = (is.1, is.2, the_trace (same ∙ ap Some (only_one file name is.0)))
  trace_reads file same T refused.OutOfMemory is = tt

-- words for which nothing is read are those of no command
pub nothing_read : {P : Type 0} (layout : Layout) (words : List (List ℕ)) → (viewed_by words ≡ None → P)
    → ReadsNothing (commands layout) (viewed_by words) → P
nothing_read {P} layout words to = go (viewed_by words) to
  where
    go : (asked : Option Viewed) → (asked ≡ None → P) → ReadsNothing (commands layout) asked → P
    go None holds nothing = holds refl
    go (Some viewed) holds makes = cc makes
