-- A trace is read in one way, and so are the answers to its file. Of two readings of one text the shorter list of lines
-- is a beginning of the longer one. Where the shorter reading stops, no line stands, so neither goes on beyond the
-- other; and where both stop at a row that is no line, it is the same row. The answers to the file follow from what is
-- read.
use Rattle.std.proofs.Common.{◌≡◌, ◌≢◌, ◌<◌, ◌≤◌, ◌+◌, ℕ, List, [], ◌∷◌, ◌++◌, length, take, drop, Contains, IfSome, refl, sym, ap, subst, ◌∙◌, arith, append_assoc, inl, inr}
use Rattle.std.specs.List.{All}
use Rattle.std.specs.Prelude.{IsSomeAnd}
use Rattle.std.specs.declared.option.Option.{Option}
use Rattle.std.specs.declared.option.Option.TheVariants.{None, Some}
use Rattle.std.specs.declared.result.Result.{Result}
use Rattle.std.specs.declared.result.Result.TheVariants.{Ok, Err}
use Rattle.std.proofs.lemmas.Bool.{cases_lt}
use Rattle.std.proofs.Math.Seq.{take-append_seam}
use Rattle.std.proofs.lemmas.List.{append-nil, take-append-le, take-append-drop}
use Rattle.std.proofs.lemmas.List.Elements.{All-contains, Contains-append_right}
use Rattle.gp_base.specs.meaning.Files.{bytes_of}
use Rattle.gp_base.specs.declared.limits.TheConstants.{MOST_FILE_BYTES}
use Rattle.task_ast.specs.meaning.Tree.{Name}
use Rattle.gp_audit.specs.declared.line.TraceLine.{TraceLine}
use Rattle.gp_audit.specs.declared.line.TraceFault.{TraceFault}
use Rattle.gp_audit.specs.declared.line.TraceFault.TheVariants as fault
use Rattle.gp_audit.specs.LineTexts.{line_text, lines_text, IsNarrowLine}
use Rattle.gp_audit.specs.meaning.Lines.{IsTrace}
use Rattle.gp_audit.specs.meaning.Reading.{IsBrokenAt}
use Rattle.gp_audit.specs.Reading.{AnswersTrace}
use Rattle.gp_audit.proofs.Once.{lines_once, read_once}
use Rattle.gp_audit.proofs.Parts.{cancel}
use Rattle.gp_audit.proofs.TraceTexts.{trace-read, broken-read}
use Rattle.gp_audit.proofs.Traces.{few-lines}
use Rattle.call_cases.specs.declared.reading.Refusal.{Refusal}
use Rattle.call_cases.specs.declared.reading.Refusal.TheVariants.{Usage, BadProgram, BadInput, ReadFault, OutOfMemory}
use Rattle.call_cases.specs.meaning.Work.{Files, ToDo, Refused}
use Rattle.call_cases.specs.meaning.Journals.{dependence_for}
use Rattle.call_cases.specs.meaning.Lines.{input_line}
use Rattle.call_cases.specs.Refusals.{IsInputRefused, ReadsAmong, AnswersFile}
use Rattle.call_cases.proofs.Loads.{only_one}
use Rattle.audit_calls.specs.meaning.Tried.{of_lines, of_row}
use Rattle.audit_calls.specs.inner.Trials.{Judge, Traced, AnswersLines}

-- the bytes are those of a trace with these lines, or this row, counted from 1, is the first that is none
abbrev pub Reads : (bytes : List ℕ) → Result (List TraceLine) ℕ → Type 0
Reads bytes (Ok lines) = IsTrace bytes lines
Reads bytes (Err row) = IsBrokenAt bytes row

-- what was read, as an answer that memory may keep back
abbrev pub told : Result (List TraceLine) ℕ → Result (List TraceLine) TraceFault
told (Ok lines) = Ok lines
told (Err row) = Err (fault.Line row)

pub told_reads : (bytes : List ℕ) (result : Result (List TraceLine) ℕ) → Reads bytes result → AnswersTrace bytes (told result)
told_reads bytes (Ok lines) is = is
told_reads bytes (Err row) is = is

pub told_lines : (result : Result (List TraceLine) ℕ) (lines : List TraceLine) → told result ≡ Ok lines → result ≡ Ok lines
told_lines (Ok read) lines is = let same : read ≡ lines = cc is in ap Ok same
told_lines (Err row) lines is = cc is

pub told_something : (result : Result (List TraceLine) ℕ) → told result ≡ Err fault.OutOfMemory → ⊥
told_something (Ok read) is = cc is
told_something (Err row) is = cc is

-- the longer of two beginnings of a text goes on where the shorter ends
goes_on : (xs r ys s : List ℕ) → xs ++ r ≡ ys ++ s → length xs ≤ length ys → ys ≡ xs ++ drop (length xs) ys
goes_on xs r ys s same short =
    let front = sym (take-append_seam xs r) ∙ (ap (λ text. take (length xs) text) same ∙ take-append-le (length xs) ys s short) in
    sym (take-append-drop (length xs) ys) ∙ ap (λ text. text ++ drop (length xs) ys) (sym front)

-- where no line stands after some lines of a text, no more lines stand in it
no_further : (xs ys : List TraceLine) (r s : List ℕ) → All IsNarrowLine xs → All IsNarrowLine ys
    → ((l : TraceLine) (after : List ℕ) → IsNarrowLine l → r ≢ line_text l ++ after)
    → lines_text xs ++ r ≡ lines_text ys ++ s → length (lines_text xs) ≤ length (lines_text ys) → length xs ≡ length ys
no_further xs ys r s nx ny none same short = go once.0 once.1 (rest ∙ ap (λ text. text ++ s) once.2)
  where
    whole : lines_text ys ≡ lines_text xs ++ drop (length (lines_text xs)) (lines_text ys)
    whole = goes_on (lines_text xs) r (lines_text ys) s same short

    once : (zs : List TraceLine) × (ys ≡ xs ++ zs) × (drop (length (lines_text xs)) (lines_text ys) ≡ lines_text zs)
    once = lines_once ys xs (drop (length (lines_text xs)) (lines_text ys)) ny nx whole

    rest : r ≡ drop (length (lines_text xs)) (lines_text ys) ++ s
    rest = cancel (lines_text xs) r (drop (length (lines_text xs)) (lines_text ys) ++ s)
        (same ∙ (ap (λ text. text ++ s) whole ∙ append_assoc (lines_text xs) (drop (length (lines_text xs)) (lines_text ys)) s))

    go : (zs : List TraceLine) → ys ≡ xs ++ zs → r ≡ lines_text zs ++ s → length xs ≡ length ys
    go [] are is = ap length (sym (are ∙ append-nil xs))
    go (z ∷ zs) are is =
        absurd (none z (lines_text zs ++ s)
        (All-contains IsNarrowLine ys z ny (subst (λ lines. Contains lines z) (sym are)
        (Contains-append_right xs (z ∷ zs) z (0, omega arith, refl))))
        (is ∙ append_assoc (line_text z) (lines_text zs) s))

-- the first row that is no line has one number
same_row : (xs ys : List TraceLine) (r s : List ℕ) → All IsNarrowLine xs → All IsNarrowLine ys
    → ((l : TraceLine) (after : List ℕ) → IsNarrowLine l → r ≢ line_text l ++ after)
    → ((l : TraceLine) (after : List ℕ) → IsNarrowLine l → s ≢ line_text l ++ after) → lines_text xs ++ r ≡ lines_text ys ++ s
    → length xs ≡ length ys
same_row xs ys r s nx ny none_r none_s same =
    elim (cases_lt (length (lines_text xs)) (length (lines_text ys))) [
      | inl below ↦ no_further xs ys r s nx ny none_r same (omega (arith, below))
      | inr above ↦ sym (no_further ys xs s r ny nx none_s (sym same) (omega (arith, above)))
    ]

ok_reading : (bytes : List ℕ) (lines : List TraceLine) (other : Result (List TraceLine) ℕ) → Reads bytes (Ok lines) → Reads bytes other
    → other ≡ Ok lines
ok_reading bytes lines other is reads =
    elim (read_once bytes lines is (told other) (told_reads bytes other reads)) [
      | inl same ↦ told_lines other lines same
      | inr out ↦ absurd (told_something other out)
    ]

-- a trace is read in one way
pub one_reading : (bytes : List ℕ) (a b : Result (List TraceLine) ℕ) → Reads bytes a → Reads bytes b → a ≡ b
one_reading bytes (Ok lines) b is other = sym (ok_reading bytes lines b is other)
one_reading bytes (Err row) (Ok lines) is other = ok_reading bytes lines (Err row) other is
one_reading bytes (Err row) (Err number) is other =
    let a = broken-read bytes row is in
    let b = broken-read bytes number other in
    ap Err
    (a.counted
    ∙ (ap (λ n. n + 1) (same_row a.lines b.lines a.rest b.rest a.narrow b.narrow a.no_line b.no_line (sym a.bytes_are ∙ b.bytes_are))
    ∙ sym b.counted))

-- no more lines than there may be bytes
pub few_read : (text : List ℕ) (lines : List TraceLine) → length text ≤ MOST_FILE_BYTES → IsTrace text lines → length lines < 4294967295
few_read text lines within is =
    let few = few-lines text [] lines ((trace-read text lines is).1 ∙ sym (append-nil (lines_text lines))) in
    omega (arith, few)

-- no read failed at a refusal of a text
pub input_unread : (T : Type 0) (names failed : List Name) (line : List ℕ) (refusal : Refusal) → IsInputRefused line refusal
    → ReadsAmong {T = T} names failed failed (Err refusal)
input_unread T names failed line Usage is = is
input_unread T names failed line (BadProgram other) is = is
input_unread T names failed line (BadInput other) is = refl
input_unread T names failed line (ReadFault name) is = absurd is
input_unread T names failed line OutOfMemory is = tt

module _ (judge : Judge) (names : List Name) (file : Name) (work : ToDo) where
  pub lines_told : (text : List ℕ) (lines : List TraceLine) → length text ≤ MOST_FILE_BYTES → AnswersTrace text (Ok lines)
      → AnswersLines judge names file work (Some text) (Ok lines)
  lines_told text lines within is = inr (within, of_lines is (judge.judges (dependence_for work) work.faults lines))

  pub row_told : (text : List ℕ) (row : ℕ) (refusal : Refusal) → length text ≤ MOST_FILE_BYTES → IsBrokenAt text row
      → IsInputRefused (input_line file 9 row) refusal → AnswersLines judge names file work (Some text) (Err refusal)
  row_told text row Usage within broken is = is
  row_told text row (BadProgram line) within broken is = is
  row_told text row (BadInput line) within broken is =
      subst (λ l. Traced names file work (Some text) (Refused 4 (names ++ file ∷ []) l)) (sym is) (inr (within, of_row broken))
  row_told text row (ReadFault name) within broken is = absurd is
  row_told text row OutOfMemory within broken is = tt

  -- a file that was read, and one that was not
  pub file_told : (files : Option Files) (text : List ℕ) (result : Result (List TraceLine) Refusal)
      → IfSome files (λ told. AnswersFile file (bytes_of told file) (Ok text))
      → AnswersLines judge names file work (Some text) result
      → IfSome files (λ told. AnswersLines judge names file work (bytes_of told file) result)
  file_told None text result is answers = tt
  file_told (Some files) text result is answers = subst (λ bytes. AnswersLines judge names file work bytes result) (sym is.0) answers

  long_told : (bytes : Option (List ℕ)) (line : List ℕ) → line ≡ input_line file 6 0
      → IsSomeAnd bytes (λ text. MOST_FILE_BYTES < length text) → AnswersLines judge names file work bytes (Err (BadInput line))
  long_told None line is above = absurd above
  long_told (Some text) line is above = inl (above, ap (Refused 4 (names ++ file ∷ [])) is)

  pub unread_told : (T : Type 0) (files : Option Files) (before now : List Name) (refusal : Refusal)
      → IfSome files (λ told. AnswersFile file (bytes_of told file) (Err refusal))
      → ReadsAmong {T = T} (file ∷ []) before now (Err refusal)
      → IfSome files (λ told. AnswersLines judge names file work (bytes_of told file) (Err refusal))
  unread_told T None before now refusal is among = tt
  unread_told T (Some files) before now Usage is among = is
  unread_told T (Some files) before now (BadProgram line) is among = is
  unread_told T (Some files) before now (BadInput line) is among = long_told (bytes_of files file) line is.0 is.1
  unread_told T (Some files) before now (ReadFault name) is among = only_one file name among.0
  unread_told T (Some files) before now OutOfMemory is among = tt
