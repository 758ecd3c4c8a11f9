-- Where the log of a run stands in a file, its run goes on from it: the log has rows, none of them is refused, and the text before them was written.
use Rattle.std.proofs.Common.{◌≡◌, inl, inr, ◌≤◌, ℕ, zero, suc, true, List, [], ◌∷◌, ◌++◌, length, take, refl, sym, ap, subst, ◌∙◌, arith, append_assoc}
use Rattle.std.specs.Prelude.{codes, ⊤, IsTrue}
use Rattle.std.specs.declared.option.Option.{Option}
use Rattle.std.specs.declared.option.Option.TheVariants.{Some, None}
use Rattle.std.specs.Io.KnownBytes.{Appends}
use Rattle.std.proofs.lemmas.List.{length-append, append_cancel_left}
use Rattle.std.proofs.Math.Seq.{take-append_seam}
use Rattle.gp_base.specs.declared.fault.Fault.{Fault}
use Rattle.gp_base.specs.declared.feed.Inputs.{Inputs}
use Rattle.gp_base.specs.declared.journal.Journal.{Journal}
use Rattle.task_ast.specs.declared.check_kind.CheckKind.{CheckKind}
use Rattle.task_ast.specs.meaning.Tree.{Name, Program}
use Rattle.task_ast.specs.meaning.Check.{check_fault}
use Rattle.task_ast.specs.meaning.Run.{plain_order}
use Rattle.task_ast.specs.Shaped.{IsAccepted, is_shaped}
use Rattle.task_parser.specs.meaning.Spelling.{Meaning, Means, Stands, LexFails, ParseFails}
use Rattle.task_parser.proofs.ShapedSpelling.{spelled_is_shaped}
use Rattle.restart_log.specs.meaning.Lines.{printed}
use Rattle.crew.specs.meaning.Noted.{left_in_order}
use Rattle.retirement_log.specs.meaning.Rows.{Retirement}
use Rattle.retirement_log.specs.meaning.Log.{log_told}
use Rattle.retirement_log.specs.meaning.Telling.{TellsPart}
use Rattle.gp_resume.specs.meaning.Reading.{IsLogOf}
use Rattle.gp_resume.specs.meaning.Resumed.{lines_of}
use Rattle.gp_resume.specs.meaning.Resumed as rest
use Rattle.gp_resume.specs.Laws.{own_rows, text_before}
use Rattle.gp_resume.proofs.Texts.{bytes-known, joined}
use Rattle.command_line.specs.declared.asked.Asked.{Asked}
use Rattle.command_line.specs.declared.asked.Command.TheVariants.{One, Log}
use Rattle.call_cases.specs.meaning.Work.{Files, ToDo, is_journalled, work_for, Case, Refused, Go, after_file}
use Rattle.call_cases.specs.meaning.Answers.{Change, TakesAll}
use Rattle.call_cases.specs.meaning.Case.{IsCaseOf, IsCase, no_program, of_text, IsCheckedCase, IsMeantCase, ForCase, ForRun, text_of}
use Rattle.call_cases.specs.meaning.InputFiles.{supplied_for, then_load, with_faults, load_faults}
use Rattle.call_cases.specs.meaning.Journals.{run_of, retired_in, lines_before, HoldsRetired, TakesRetiredFor}
use Rattle.call_cases.specs.meaning.RunCommands as run
use Rattle.call_cases.specs.meaning.Headline.{Call, TellsStop, MeetsCase, Headline}
use Rattle.call_cases.proofs.OneCase.{one_case_of}
use Rattle.batch_calls.specs.meaning.LogCommands as log
use Rattle.batch_calls.specs.meaning.LogCommands.{TakesLog}
use Rattle.resume_calls.specs.meaning.ResumeCommands as resume
use Rattle.resume_calls.proofs.HaltedCases.{rows_case, supplies_once}
use Rattle.resume_calls.proofs.JoinedTexts.{cut_joined, same_text}
use Rattle.call_laws.specs.meaning.Laws.{Wrote, HasBegun, IsSameBatch, BeginsText, LoggedLaw}
use Rattle.call_laws.proofs.Parts.{first_bytes, told_answer, lines_split}

-- ---- what there is to do is done with an accepted program

abbrev GoesAccepted : Case ToDo → Type 0
GoesAccepted (Go names work) = IsAccepted work.program
GoesAccepted case = ⊤

abbrev SuppliesFor : Program → Case ToDo → Type 0
SuppliesFor program (Go names work) = work.program ≡ program
SuppliesFor program given = ⊤

module _ (asked : Asked) (files : Files) where
  faults_for : (program : Program) (inputs : Inputs) (given : Case (List Fault))
      → SuppliesFor program (then_load given (λ names faults. Go names (work_for asked program inputs faults)))
  faults_for program inputs (Go names faults) = refl
  faults_for program inputs (Refused status names line) = tt

  inputs_for : (program : Program) (given : Case Inputs) → SuppliesFor program (then_load given (with_faults files asked program))
  inputs_for program (Go names inputs) = faults_for program inputs (load_faults files names asked.faults)
  inputs_for program (Refused status names line) = tt

  goes : (program : Program) (given : Case ToDo) → IsAccepted program → SuppliesFor program given
      → GoesAccepted (after_file asked.program given)
  goes program (Go names work) accepted same = subst IsAccepted (sym same) accepted
  goes program (Refused status names line) accepted same = tt

  checked : (program : Program) (fault : Option (CheckKind × ℕ)) (case : Case ToDo) → IsTrue (is_shaped program)
      → check_fault program ≡ fault
      → IsCheckedCase run.asking files asked program fault case → GoesAccepted case
  checked program (Some fault) case shaped is comes = subst GoesAccepted (sym comes) tt
  checked program None case shaped is (given, supplies, comes) =
      subst GoesAccepted (sym comes)
      (goes program given (record { shaped = shaped; faultless = is })
      (subst (SuppliesFor program) (sym supplies) (inputs_for program (supplied_for asked.command program.heads files))))

  meant : (meaning : Meaning) (text : List ℕ) (case : Case ToDo) → Means text meaning → IsMeantCase run.asking files asked meaning case
      → GoesAccepted case
  meant (LexFails fault) text case means comes = subst GoesAccepted (sym comes) tt
  meant (ParseFails fault) text case means comes = subst GoesAccepted (sym comes) tt
  meant (Stands program) text case means comes =
      checked program (check_fault program) case (spelled_is_shaped text program means) refl comes

  accepted_case : (case : Case ToDo) → IsCaseOf run.asking asked files case → GoesAccepted case
  accepted_case case (no_program absent) = tt
  accepted_case case (of_text {text} meaning there means comes) = meant meaning text case means comes

-- ---- what the headline says of the log and of the output

-- bytes that a sink took are those that it is told to have taken
took : (change : Change) (bytes others : List ℕ) → Wrote change bytes → TakesAll change others → bytes ≡ others
took change bytes others wrote taken =
    append_cancel_left wrote.before bytes others
    (subst (λ now. Appends (Some wrote.before) now others) wrote.now
    (subst (λ began. Appends began change.written' others) wrote.began taken))

module _ (call : Call) (files : Files) (names : List Name) (work : ToDo) (headline : Headline log.commands call)
    (known : call.files ≡ Some files) (is : IsCase log.asking call.words files (Go names work)) (command : work.command ≡ Log) where
  runs : is_journalled work.command ≡ true
  runs = ap is_journalled command

  meets : MeetsCase log.commands call (Go names work)
  meets = subst (λ told. ForCase log.asking call.words told (MeetsCase log.commands call)) known headline.by_case (Go names work) is

  held : HoldsRetired work call.journal call.out
  held = (subst (λ c. TakesRetiredFor c work call.journal call.out) command (meets.retired runs)).0

  logged_of : HasBegun call → TakesLog work call.journal call.err
  logged_of (inl whole) =
      (subst (λ told. ForCase log.asking call.words told
      (λ case. ForRun log.commands case (λ w. TakesAll call.err (log.log_for w) × TakesLog w call.journal call.err))) known
      (headline.quiet whole) (Go names work) is runs).1
  logged_of (inr stopped) = go (meets.stopped stopped.0)
    where
      go : TellsStop log.commands call log.commands.log (Go names work) → TakesLog work call.journal call.err
      go (inl unbegun) = absurd (stopped.1 unbegun.0)
      go (inr taken) = taken.1 runs

-- ---- the text before

-- what begins so has as many bytes of the text
begins_so : (before all written more rest : List ℕ) → written ≡ before ++ more → before ++ rest ≡ all → BeginsText (length before) all written
begins_so before all written more rest is whole = record {
  within = (let size = ap length is in let parts = length-append before more in omega (arith, size, parts));
  same =
      ap (take (length before)) is ∙ (take-append_seam before more ∙ (sym (take-append_seam before rest) ∙ ap (take (length before)) whole));
}

module _ (work other : ToDo) (same : IsSameBatch work other) where
  left_same : left_in_order work.program work.inputs work.limits ≡ left_in_order other.program other.inputs other.limits
  left_same =
      let program = same.program in
      let inputs = same.inputs in
      let limits = same.limits in
      λ i. left_in_order (program i) (inputs i) (limits i)

  lines_same : (k : ℕ) → lines_before work k ≡ codes "output\n" ++ printed (lines_of (take k (plain_order other.program other.inputs other.limits)))
  unfolding run_of
  lines_same k =
      let program = same.program in
      let inputs = same.inputs in
      let limits = same.limits in
      λ i. codes "output\n" ++ printed (lines_of (take k (plain_order (program i) (inputs i) (limits i))))

  -- the output has the text of the first positions, where so many have retired
  begins_text : (journal : Journal) (out : Change) (written : List ℕ) (p : ℕ) → p ≤ retired_in work journal
      → p ≤ length (plain_order other.program other.inputs other.limits) → HoldsRetired work journal out → Wrote out written
      → BeginsText (length (text_before other.program other.inputs other.limits p)) (run.work_text One other) written
  begins_text journal out written zero within few holds wrote = record { within = omega arith; same = refl }
  begins_text journal out written (suc q) within few (inl none) wrote = absurd (omega (arith, within, none))
  begins_text journal out written (suc q) within few (inr held) wrote =
      let run_lines = plain_order other.program other.inputs other.limits in
      let k = retired_in work journal in
      let split = lines_split (suc q) k run_lines within in
      let first = printed (lines_of (take (suc q) run_lines)) in
      let is : written ≡ text_before other.program other.inputs other.limits (suc q) ++ (split.0 ++ held.0) =
      took out written (lines_before work k ++ held.0) wrote held.1
      ∙ (ap (λ t. t ++ held.0) (lines_same k ∙ ap (λ t. codes "output\n" ++ t) split.1)
      ∙ (ap (λ t. t ++ held.0) (sym (append_assoc (codes "output\n") first split.0))
      ∙ append_assoc (codes "output\n" ++ first) split.0 held.0)) in
      begins_so (text_before other.program other.inputs other.limits (suc q)) (run.work_text One other) written (split.0 ++ held.0)
      (rest.text other.program other.inputs other.limits (own_rows other.program other.inputs other.limits (suc q))) is
      (joined other.program other.inputs other.limits (suc q) few ∙ same_text other)

-- ---- the law

pub logged_law : LoggedLaw
logged_law call files names work logged headline known is command begun wrote kept resumed files' names' other case is' same holds short is_case = (
  rows,
  length (text_before other.program other.inputs other.limits p),
  bytes-known other.program other.inputs other.limits p found.1,
  sym one,
  subst (λ c. take (length (text_before other.program other.inputs other.limits p)) (run.work_text One other) ++ text_of resume.commands c
      ≡ run.work_text One other) one
      (cut_joined (text_before other.program other.inputs other.limits p)
      (rest.text other.program other.inputs other.limits rows) (run.work_text One other)
      (joined other.program other.inputs other.limits p found.1 ∙ same_text other)),
  λ written out. begins_text work other same call.journal call.out written p found.2 found.1
      (held call files names work headline known is command) out,
)
  where
    k : ℕ
    k = retired_in work call.journal

    part : TellsPart call.err.written call.err.written' (take k (left_in_order other.program other.inputs other.limits))
    part =
        subst (λ told. TellsPart call.err.written call.err.written' (take k told)) (left_same work other same)
        (logged_of call files names work headline known is command begun)

    all : List ℕ
    all = log_told (take k (left_in_order other.program other.inputs other.limits))

    accepted : IsAccepted other.program
    accepted = accepted_case resumed.run files' (Go names' other) is'

    found : (p : ℕ) × (p ≤ length (plain_order other.program other.inputs other.limits)) × (p ≤ k)
        × IsLogOf other.program other.inputs other.limits (take kept (take part.part all)) (own_rows other.program other.inputs other.limits p)
    found =
        let first = first_bytes kept part.part all in
        told_answer other.program other.inputs other.limits accepted k call.err.written call.err.written' part (take kept (take part.part all))
        first.0 first.1 first.2

    p : ℕ
    p = found.0

    rows : List Retirement
    rows = own_rows other.program other.inputs other.limits p

    log_of : IsLogOf other.program other.inputs other.limits (take kept logged) rows
    log_of =
        subst (λ bytes. IsLogOf other.program other.inputs other.limits (take kept bytes) rows) (sym (took call.err logged _ wrote part.taken)) found.3

    one : Go (names' ++ resumed.log ∷ []) (record { work = other; rows = rows }) ≡ case
    one =
        one_case_of resume.asking supplies_once resumed files' (Go (names' ++ resumed.log ∷ []) (record { work = other; rows = rows })) case
        (rows_case resumed files' names' other (take kept logged) rows is' (holds, short) log_of) is_case
