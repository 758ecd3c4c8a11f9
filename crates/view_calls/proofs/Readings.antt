-- What the file of a trace comes to, by what its text is read as and by the verdict on its lines.
use Rattle.std.proofs.Common.{◌≡◌, ◌<◌, ◌≤◌, ℕ, List, [], ◌∷◌, ◌++◌, length, IfSome, sym, ap, subst, inl, inr}
use Rattle.std.specs.Prelude.{IsSomeAnd}
use Rattle.std.specs.declared.option.Option.{Option}
use Rattle.std.specs.declared.option.Option.TheVariants.{None, Some}
use Rattle.std.specs.declared.result.Result.{Result}
use Rattle.std.specs.declared.result.Result.TheVariants.{Ok, Err}
use Rattle.gp_base.specs.meaning.Files.{bytes_of}
use Rattle.gp_base.specs.declared.fault.Fault.{Fault}
use Rattle.gp_base.specs.declared.limits.TheConstants.{MOST_FILE_BYTES}
use Rattle.task_ast.specs.meaning.Tree.{Name}
use Rattle.dependence.specs.meaning.Restarts.{Dependence}
use Rattle.gp_audit.specs.declared.line.TraceLine.{TraceLine}
use Rattle.gp_audit.specs.declared.verdict.Verdict.{Verdict}
use Rattle.gp_audit.specs.declared.verdict.Verdict.TheVariants.{Lawful, Unlawful, Incomplete}
use Rattle.gp_audit.specs.meaning.Lines.{IsTrace}
use Rattle.gp_audit.specs.meaning.Reading.{IsBrokenAt}
use Rattle.gp_audit.specs.meaning.Verdicts.{LawfulLines, IsVerdict}
use Rattle.call_cases.specs.declared.reading.Refusal.{Refusal}
use Rattle.call_cases.specs.declared.reading.Refusal.TheVariants.{Usage, BadProgram, BadInput, ReadFault, OutOfMemory}
use Rattle.call_cases.specs.meaning.Work.{Files, ToDo, Refused}
use Rattle.call_cases.specs.meaning.Journals.{dependence_for}
use Rattle.call_cases.specs.meaning.Lines.{input_line}
use Rattle.call_cases.specs.Refusals.{IsInputRefused, ReadsAmong, AnswersFile}
use Rattle.call_cases.proofs.Loads.{only_one}
use Rattle.view_calls.specs.Traces.{unlawful_in}
use Rattle.view_calls.specs.meaning.Sights.{of_lines, of_unlawful, of_row}
use Rattle.view_calls.specs.inner.Answers.{Traced, AnswersLines}

-- where no line is the first that is not lawful, all are lawful
lawful_by : (dependence : Dependence) (faults : List Fault) (lines : List TraceLine) (verdict : Verdict)
    → IsVerdict dependence faults lines verdict → unlawful_in verdict ≡ None
    → LawfulLines dependence faults lines
lawful_by dependence faults lines Lawful is none = is.0
lawful_by dependence faults lines (Unlawful number) is none = cc none
lawful_by dependence faults lines Incomplete is none = is.0

unlawful_by : (dependence : Dependence) (faults : List Fault) (lines : List TraceLine) (verdict : Verdict) (row : ℕ)
    → IsVerdict dependence faults lines verdict → unlawful_in verdict ≡ Some row
    → IsVerdict dependence faults lines (Unlawful row)
unlawful_by dependence faults lines Lawful row is some = cc some
unlawful_by dependence faults lines (Unlawful number) row is some =
    let same : number ≡ row = cc some in subst (λ n. IsVerdict dependence faults lines (Unlawful n)) same is
unlawful_by dependence faults lines Incomplete row is some = cc some

module _ (names : List Name) (file : Name) (position : Option ℕ) (work : ToDo) where
  pub lines_told : (text : List ℕ) (lines : List TraceLine) (verdict : Verdict) → length text ≤ MOST_FILE_BYTES → IsTrace text lines
      → IsVerdict (dependence_for work) work.faults lines verdict → unlawful_in verdict ≡ None
      → AnswersLines names file position work (Some text) (Ok lines)
  lines_told text lines verdict within is judged none =
      inr (within, of_lines is (lawful_by (dependence_for work) work.faults lines verdict judged none))

  -- a row that is told
  told_row : (text : List ℕ) (row : ℕ) (refusal : Refusal) → Traced names file position work (Some text)
      (Refused 4 (names ++ file ∷ []) (input_line file 1 row))
      → IsInputRefused (input_line file 1 row) refusal → AnswersLines names file position work (Some text) (Err refusal)
  told_row text row Usage comes refused = refused
  told_row text row (BadProgram line) comes refused = refused
  told_row text row (BadInput line) comes refused =
      subst (λ l. Traced names file position work (Some text) (Refused 4 (names ++ file ∷ []) l)) (sym refused) comes
  told_row text row (ReadFault name) comes refused = absurd refused
  told_row text row OutOfMemory comes refused = tt

  pub unlawful_told : (text : List ℕ) (lines : List TraceLine) (verdict : Verdict) (row : ℕ) (refusal : Refusal)
      → length text ≤ MOST_FILE_BYTES → IsTrace text lines
      → IsVerdict (dependence_for work) work.faults lines verdict → unlawful_in verdict ≡ Some row
      → IsInputRefused (input_line file 1 row) refusal → AnswersLines names file position work (Some text) (Err refusal)
  unlawful_told text lines verdict row refusal within is judged some refused =
      told_row text row refusal (inr (within, of_unlawful row is (unlawful_by (dependence_for work) work.faults lines verdict row judged some)))
      refused

  pub row_told : (text : List ℕ) (row : ℕ) (refusal : Refusal) → length text ≤ MOST_FILE_BYTES → IsBrokenAt text row
      → IsInputRefused (input_line file 1 row) refusal → AnswersLines names file position work (Some text) (Err refusal)
  row_told text row refusal within is refused = told_row text row refusal (inr (within, of_row is)) refused

  -- a file that was read, and one that was not
  pub file_told : (files : Option Files) (text : List ℕ) (result : Result (List TraceLine) Refusal)
      → IfSome files (λ told. AnswersFile file (bytes_of told file) (Ok text))
      → AnswersLines names file position work (Some text) result
      → IfSome files (λ told. AnswersLines names file position work (bytes_of told file) result)
  file_told None text result is answers = tt
  file_told (Some files) text result is answers =
      subst (λ bytes. AnswersLines names file position work bytes result) (sym is.0) answers

  long_told : (bytes : Option (List ℕ)) (line : List ℕ) → line ≡ input_line file 6 0
      → IsSomeAnd bytes (λ text. MOST_FILE_BYTES < length text) → AnswersLines names file position work bytes (Err (BadInput line))
  long_told None line is above = absurd above
  long_told (Some text) line is above = inl (above, ap (Refused 4 (names ++ file ∷ [])) is)

  pub unread_told : (T : Type 0) (files : Option Files) (before now : List Name) (refusal : Refusal)
      → IfSome files (λ told. AnswersFile file (bytes_of told file) (Err refusal))
      → ReadsAmong {T = T} (file ∷ []) before now (Err refusal)
      → IfSome files (λ told. AnswersLines names file position work (bytes_of told file) (Err refusal))
  unread_told T None before now refusal is among = tt
  unread_told T (Some files) before now Usage is among = is
  unread_told T (Some files) before now (BadProgram line) is among = is
  unread_told T (Some files) before now (BadInput line) is among = long_told (bytes_of files file) line is.0 is.1
  unread_told T (Some files) before now (ReadFault name) is among = only_one file name among.0
  unread_told T (Some files) before now OutOfMemory is among = tt
