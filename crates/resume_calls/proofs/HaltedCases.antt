-- The case of a run that goes on, where that of its run would begin: with what comes of the file of the log.
use Rattle.std.proofs.Common.{◌≡◌, ◌<◌, ℕ, List, [], ◌∷◌, ◌++◌, length, IfSome, refl, sym, ap, ◌∙◌, subst, inl, inr, arith}
use Rattle.std.specs.List.{Contains}
use Rattle.std.specs.Prelude.{IsSomeAnd}
use Rattle.std.specs.declared.option.Option.{Option}
use Rattle.std.specs.declared.option.Option.TheVariants.{None, Some}
use Rattle.std.specs.declared.result.Result.TheVariants.{Ok, Err}
use Rattle.std.proofs.lemmas.List.Elements.{Contains-append_left, Contains-append_right}
use Rattle.gp_base.specs.meaning.Files.{bytes_of}
use Rattle.gp_base.specs.declared.limits.TheConstants.{MOST_FILE_BYTES}
use Rattle.task_ast.specs.meaning.Tree.{Name}
use Rattle.retirement_log.specs.meaning.Rows.{Retirement}
use Rattle.gp_resume.specs.meaning.Reading.{LogAnswer, Rows, Broken, Unfit, IsAnswer}
use Rattle.gp_resume.proofs.LogAnswers.{one-answer}
use Rattle.command_line.specs.meaning.ResumeWords.{resumed_by}
use Rattle.command_line.specs.declared.resume_words.Resumed.{Resumed}
use Rattle.call_cases.specs.declared.lines.Tool.TheVariants.{Gprs}
use Rattle.call_cases.specs.declared.reading.Refusal.{Refusal}
use Rattle.call_cases.specs.declared.reading.Refusal.TheVariants as refused
use Rattle.call_cases.specs.meaning.Work.{Files, ToDo, Case, Refused, Go, after_file}
use Rattle.call_cases.specs.meaning.InputFiles.{ReadsFile}
use Rattle.call_cases.specs.meaning.Lines.{input_line}
use Rattle.call_cases.specs.meaning.RunCommands as run
use Rattle.call_cases.specs.meaning.Case.{IsCaseOf, names_read}
use Rattle.call_cases.specs.meaning.Laws.{HasOneCase}
use Rattle.call_cases.specs.Refusals.{RefusesCase, RefusesShelf, ReadsAmong, AnswersFile}
use Rattle.call_cases.specs.meaning.Headline.{ReadsNothing}
use Rattle.call_cases.proofs.Further.{further, refuses_further, further_once}
use Rattle.call_cases.proofs.LastFiles.{file_shifts, file_some, file_one, file_reads}
use Rattle.call_cases.proofs.Loads.{only_one}
use Rattle.call_cases.proofs.OneCase.{SuppliesOne, has_one_case}
use Rattle.resume_calls.specs.meaning.Resumption.{Resumption, by_answer, GoesOn}
use Rattle.resume_calls.specs.meaning.ResumeCommands.{MayRead, of_run, the_log, asking, commands}
use Rattle.resume_calls.specs.inner.Halting.{Reader, answer_for}
use Rattle.resume_calls.proofs.Readers.{some_reader}

-- what comes of the bytes of a log, where another file is read before
answer_shifts : (file first : Name) (names : List Name) (work : ToDo) (answer : LogAnswer)
    → by_answer file (first ∷ names) work answer ≡ after_file first (by_answer file names work answer)
answer_shifts file first names work (Rows rows) = refl
answer_shifts file first names work (Broken number) = refl
answer_shifts file first names work (Unfit number) = refl

answer_read : (file : Name) (names : List Name) (work : ToDo) (answer : LogAnswer) → names_read (by_answer file names work answer) ≡ names
answer_read file names work (Rows rows) = refl
answer_read file names work (Broken number) = refl
answer_read file names work (Unfit number) = refl

-- what comes next, after what the run reads
abbrev Comes : Resumed → ToDo → List Name → List ℕ → Case Resumption → Type 0
Comes resumed work names text case = GoesOn resumed.log names work text case

abbrev Next : Resumed → Files → List Name → ToDo → Case Resumption → Type 0
Next resumed files names work case =
    ReadsFile names resumed.log (bytes_of files resumed.log) (GoesOn resumed.log (names ++ resumed.log ∷ []) work) case

comes_by : (reader : Reader) (resumed : Resumed) (work : ToDo) (names : List Name) (text : List ℕ)
    → Comes resumed work names text (by_answer resumed.log names work (answer_for reader work text))
comes_by reader resumed work names text = (answer_for reader work text, reader.answers work.program work.inputs work.limits text, refl)

comes_one : (resumed : Resumed) (work : ToDo) (names : List Name) (text : List ℕ) (a b : Case Resumption) → Comes resumed work names text a
    → Comes resumed work names text b → a ≡ b
comes_one resumed work names text a b (answer, is, case) (answer', is', case') =
    case ∙ (ap (by_answer resumed.log names work) (one-answer work.program work.inputs work.limits text answer answer' is is') ∙ sym case')

next_some : (resumed : Resumed) (files : Files) (names : List Name) (work : ToDo)
    → (case : Case Resumption) × Next resumed files names work case
next_some resumed files names work =
    file_some resumed.log (Comes resumed work)
    (λ ns text. (by_answer resumed.log ns work (answer_for some_reader work text), comes_by some_reader resumed work ns text)) names
    (bytes_of files resumed.log)

next_one : (resumed : Resumed) (files : Files) (names : List Name) (work : ToDo) (a b : Case Resumption) → Next resumed files names work a
    → Next resumed files names work b → a ≡ b
next_one resumed files names work a b is other =
    file_one resumed.log (Comes resumed work) (comes_one resumed work) names (bytes_of files resumed.log) a b is other

pub supplies_once : SuppliesOne asking
supplies_once = further_once Gprs (λ (r : Resumed). r.run) resumed_by Next next_some next_one

pub resume_case : HasOneCase asking
resume_case = has_one_case asking supplies_once

module _ (resumed : Resumed) (files : Files) where
  next_shifts : (first : Name) (names : List Name) (work : ToDo) (case : Case Resumption) → Next resumed files (first ∷ names) work case
      → (found : Case Resumption) × Next resumed files names work found × (case ≡ after_file first found)
  next_shifts first names work case is =
      file_shifts resumed.log (Comes resumed work)
      (λ f ns text c comes. (by_answer resumed.log ns work comes.0, (comes.0, comes.1, refl), comes.2 ∙ answer_shifts resumed.log f ns work comes.0))
      first names (bytes_of files resumed.log) case is

  -- what was read before the log, and the log, were read
  next_reads : (names : List Name) (work : ToDo) (case : Case Resumption) → Next resumed files names work case → (name : Name)
      → Contains (names ++ resumed.log ∷ []) name → Contains (names_read case) name
  next_reads names work case is name has =
      file_reads resumed.log (Comes resumed work)
      (λ ns text c comes. ap (λ (x : Case Resumption). names_read x) comes.2 ∙ answer_read resumed.log ns work comes.0) names
      (bytes_of files resumed.log) case is name has

  case_after : (names : List Name) (work : ToDo) (case : Case Resumption) → IsCaseOf run.asking resumed.run files (Go names work)
      → Next resumed files names work case → IsCaseOf asking resumed files case
  case_after names work case is next =
      further Gprs (λ (r : Resumed). r.run) resumed_by Next resumed files next_shifts (Go names work) case is next

  -- what the run is refused for, going on with it is
  run_refused : (refusal : Refusal) → RefusesCase (IsCaseOf run.asking resumed.run files) refusal
      → RefusesCase (IsCaseOf asking resumed files) refusal
  run_refused refusal is =
      refuses_further Gprs (λ (r : Resumed). r.run) resumed_by Next resumed files next_shifts (next_some resumed files)
      (λ names work case next name has. next_reads names work case next name (Contains-append_left names (resumed.log ∷ []) name has))
      refusal is

  -- the case of a text of the log
  text_next : (names : List Name) (work : ToDo) (text : List ℕ) (case : Case Resumption)
      → AnswersFile resumed.log (bytes_of files resumed.log) (Ok text) → Comes resumed work (names ++ resumed.log ∷ []) text case
      → Next resumed files names work case
  text_next names work text case told comes =
      subst (λ bytes. ReadsFile names resumed.log bytes (GoesOn resumed.log (names ++ resumed.log ∷ []) work) case) (sym told.0)
      (inr (told.1, comes))

  text_case : (reader : Reader) (names : List Name) (work : ToDo) (text : List ℕ) → IsCaseOf run.asking resumed.run files (Go names work)
      → AnswersFile resumed.log (bytes_of files resumed.log) (Ok text)
      → IsCaseOf asking resumed files (by_answer resumed.log (names ++ resumed.log ∷ []) work (answer_for reader work text))
  text_case reader names work text is told =
      let case = by_answer resumed.log (names ++ resumed.log ∷ []) work (answer_for reader work text) in
      case_after names work case is (text_next names work text case told (comes_by reader resumed work (names ++ resumed.log ∷ []) text))

  -- and where that comes to rows, they are what there is to go on from
  pub rows_case : (names : List Name) (work : ToDo) (text : List ℕ) (rows : List Retirement)
      → IsCaseOf run.asking resumed.run files (Go names work)
      → AnswersFile resumed.log (bytes_of files resumed.log) (Ok text) → IsAnswer work.program work.inputs work.limits text (Rows rows)
      → IsCaseOf asking resumed files (Go (names ++ resumed.log ∷ []) (record { work = work; rows = rows }))
  rows_case names work text rows is told answer =
      case_after names work (Go (names ++ resumed.log ∷ []) (record { work = work; rows = rows })) is
      (text_next names work text (Go (names ++ resumed.log ∷ []) (record { work = work; rows = rows })) told (Rows rows, answer, refl))

  long_next : (names : List Name) (work : ToDo) (bytes : Option (List ℕ)) (line : List ℕ) → line ≡ input_line resumed.log 6 0
      → IsSomeAnd bytes (λ text. MOST_FILE_BYTES < length text)
      → ReadsFile names resumed.log bytes (GoesOn resumed.log (names ++ resumed.log ∷ []) work) (Refused 4 (names ++ resumed.log ∷ []) line)
  long_next names work None line is above = absurd above
  long_next names work (Some text) line is above = inl (above, ap (Refused 4 (names ++ resumed.log ∷ [])) is)

  -- a refusal of the file of the log
  file_refused : (T : Type 0) (names : List Name) (work : ToDo) (before now : List Name) (refusal : Refusal)
      → IsCaseOf run.asking resumed.run files (Go names work)
      → AnswersFile resumed.log (bytes_of files resumed.log) (Err refusal)
      → ReadsAmong {T = T} (resumed.log ∷ []) before now (Err refusal)
      → RefusesCase (IsCaseOf asking resumed files) refusal
  file_refused T names work before now refused.Usage is told among = absurd told
  file_refused T names work before now (refused.BadProgram line) is told among = absurd told
  file_refused T names work before now (refused.BadInput line) is told among = (
    names ++ resumed.log ∷ [],
    case_after names work (Refused 4 (names ++ resumed.log ∷ []) line) is
        (long_next names work (bytes_of files resumed.log) line told.0 told.1),
  )
  file_refused T names work before now (refused.ReadFault name) is told among =
      let found = next_some resumed files names work in (
        found.0,
        case_after names work found.0 is found.1,
        subst (λ read. Contains (names_read found.0) read) (only_one resumed.log name among.0)
            (next_reads names work found.0 found.1 resumed.log
            (Contains-append_right names (resumed.log ∷ []) resumed.log (0, omega arith, refl))),
      )
  file_refused T names work before now refused.OutOfMemory is told among = tt

module _ (resumed : Resumed) where
  -- the same where the files are told
  pub run_refuses : (files : Option Files) (refusal : Refusal)
      → IfSome files (λ told. RefusesCase (IsCaseOf run.asking resumed.run told) refusal)
      → IfSome files (λ told. RefusesCase (IsCaseOf asking resumed told) refusal)
  run_refuses None refusal is = tt
  run_refuses (Some files) refusal is = run_refused resumed files refusal is

  pub file_refuses : (T : Type 0) (files known : Option Files) (names : List Name) (work : ToDo) (before now : List Name)
      (refusal : Refusal) → known ≡ files
      → IfSome files (λ told. IsCaseOf run.asking resumed.run told (Go names work))
      → IfSome known (λ told. AnswersFile resumed.log (bytes_of told resumed.log) (Err refusal))
      → ReadsAmong {T = T} (resumed.log ∷ []) before now (Err refusal)
      → IfSome files (λ told. RefusesCase (IsCaseOf asking resumed told) refusal)
  file_refuses T None known names work before now refusal same is answers among = tt
  file_refuses T (Some files) known names work before now refusal same is answers among =
      file_refused resumed files T names work before now refusal is
      (subst (λ k. IfSome k (λ told. AnswersFile resumed.log (bytes_of told resumed.log) (Err refusal))) same answers) among

pub text_read : (reader : Reader) (resumed : Resumed) (files known : Option Files) (names : List Name) (work : ToDo) (text : List ℕ)
    → known ≡ files
    → IfSome files (λ told. IsCaseOf run.asking resumed.run told (Go names work))
    → IfSome known (λ told. AnswersFile resumed.log (bytes_of told resumed.log) (Ok text))
    → IfSome files (λ told. IsCaseOf asking resumed told
    (by_answer resumed.log (names ++ resumed.log ∷ []) work (answer_for reader work text)))
text_read reader resumed None known names work text same is answers = tt
text_read reader resumed (Some files) known names work text same is answers =
    text_case resumed files reader names work text is (subst
    (λ k. IfSome k (λ told. AnswersFile resumed.log (bytes_of told resumed.log) (Ok text))) same answers)

-- what the shelf tells of a refusal
module _ (resumed : Resumed) (before now : List Name) where
  pub run_reads : (refusal : Refusal) → RefusesShelf run.MayRead (Some resumed.run) before now refusal
      → RefusesShelf MayRead (Some resumed) before now refusal
  run_reads refused.Usage is = let never = is.0 in cc never
  run_reads (refused.BadProgram line) is = is
  run_reads (refused.BadInput line) is = is
  run_reads (refused.ReadFault name) is = (is.0, is.1, of_run is.2)
  run_reads refused.OutOfMemory is = tt

  pub log_reads : (T : Type 0) (refusal : Refusal) → ReadsAmong {T = T} (resumed.log ∷ []) before now (Err refusal)
      → RefusesShelf MayRead (Some resumed) before now refusal
  log_reads T refused.Usage is = absurd is
  log_reads T (refused.BadProgram line) is = absurd is
  log_reads T (refused.BadInput line) is = is
  log_reads T (refused.ReadFault name) is = (is.1, is.2, subst (MayRead resumed) (only_one resumed.log name is.0) the_log)
  log_reads T refused.OutOfMemory is = tt

-- words for which nothing is read are those of no command
pub nothing_read : {P : Type 0} (words : List (List ℕ)) → (resumed_by words ≡ None → P) → ReadsNothing commands (resumed_by words) → P
nothing_read {P} words to = go (resumed_by words) to
  where
    go : (asked : Option Resumed) → (asked ≡ None → P) → ReadsNothing commands asked → P
    go None holds nothing = holds refl
    go (Some resumed) holds makes = cc makes
