-- From what the parts of the call ensure to what is promised of it.
use Rattle.std.proofs.Common.{◌≡◌, ◌⊎◌, ◌∙◌, ℕ, List, [], ◌∷◌, IfSome, refl, sym, subst, inl, inr, arith}
use Rattle.std.specs.List.{Contains}
use Rattle.std.specs.declared.option.Option.{Option}
use Rattle.std.specs.declared.option.Option.TheVariants.{None, Some}
use Rattle.gp_base.specs.declared.ending.End.{End}
use Rattle.gp_base.specs.declared.ending.End.TheVariants.{Finished, Stuck, Spent}
use Rattle.task_ast.specs.meaning.Tree.{Name}
use Rattle.command_line.specs.declared.asked.Asked.{Asked}
use Rattle.call_cases.specs.declared.reading.Refusal.{Refusal}
use Rattle.call_cases.specs.declared.reading.Refusal.TheVariants.{Usage as RefusedUsage, BadProgram as RefusedProgram, BadInput as RefusedInput, ReadFault, OutOfMemory}
use Rattle.call_cases.specs.meaning.Work.{Files, ToDo, Case, Refused, Go}
use Rattle.call_cases.specs.declared.lines.Tool.TheVariants.{GprsView}
use Rattle.call_cases.specs.meaning.RunCommands.{MayRead, IsWhole, end_status}
use Rattle.call_cases.specs.meaning.PlainText.{plain_ran}
use Rattle.call_cases.specs.meaning.Case.{IsCase, no_command, ForCase, names_read, due_of}
use Rattle.call_cases.specs.meaning.Lines.{tool_line, usage_line, read_fault_line, out_of_memory_line}
use Rattle.call_cases.specs.Refusals.{RefusesCase, RefusesWords, refusal_line, refusal_status}
use Rattle.call_cases.specs.meaning.Answers.{Change, no_journal, TakesAll, TakesPart, Fails, Grew, IsStopLine, Yields, due_status, no_memory, read_fault, write_fault}
use Rattle.call_cases.specs.meaning.Headline.{Call, HasCaseLine, IsStop, TellsReadFault}
use Rattle.call_cases.proofs.OneCase.{for_known, for_each}
use Rattle.explain_calls.specs.meaning.Commands.{explained_by, asking, case_status}
use Rattle.explain_calls.specs.meaning.Fronts.{IsHint, IsText}
use Rattle.explain_calls.specs.meaning.Explains.{IsExplained, IsOwnText, Explains}
use Rattle.explain_calls.specs.Endings.{TellEnds, RunTold, TextFor, LeavesShelf}
use Rattle.explain_calls.proofs.Outcomes.{IsOwn, WriteFails, Outcome, done, failed, short, outcome, outcome_part, none_part}
use Rattle.explain_calls.proofs.OwnCases.{explain_case, some_text}

-- the line of a stop, what is due for the case, or, where a read failed, the line of a file that it reads
abbrev IsOwnLine : Call → Case ToDo → List ℕ → Type 0
IsOwnLine call case line =
    IsStopLine GprsView line ⊎ (line ≡ due_of GprsView case []) ⊎ Grew call.failed call.failed'
    × (name : Name) × Contains (names_read case) name × (line ≡ tool_line GprsView (read_fault_line name))

module _ (words : List (List ℕ)) (files : Option Files) (before now : List Name) (out err : Change) where
  abbrev call : ℕ → Call
  call status = record {
    words = words;
    files = files;
    failed = before;
    failed' = now;
    out = out;
    err = err;
    status = status;
    journal = no_journal;
  }

  -- the line of a case
  abbrev case_line : Case ToDo → List ℕ
  case_line case = due_of GprsView case []

  abbrev For : (Case ToDo → Type 0) → Type 0
  For P = ForCase asking words files P

  abbrev Faults : Type 0
  Faults = Fails out ⊎ Fails err

  faulty : WriteFails out err → Faults
  faulty (inl fails) = inr fails
  faulty (inr is) = inl is.0

  -- one of these is the case
  module _ (X : Type 0) (known : X → Case ToDo) where
    for_one : (P : Case ToDo → Type 0) → IfSome files (λ told. (x : X) × IsCase asking words told (known x)) → ((x : X) → P (known x))
        → For P
    for_one P is holds = go files is
      where
        go : (told : Option Files) → IfSome told (λ some. (x : X) × IsCase asking words some (known x)) → ForCase asking words told P
        go None one = tt
        go (Some some) (x, one) = for_known asking explain_case words (Some some) (known x) P one (holds x)

    told_one : (status : ℕ) → IfSome files (λ told. (x : X) × IsCase asking words told (known x)) → ((x : X) → case_status (known x) ≡ status)
        → IfSome files (λ told. (case : Case ToDo) × IsCase asking words told case × (case_status case ≡ status))
    told_one status is same = go files is
      where
        go : (told : Option Files) → IfSome told (λ some. (x : X) × IsCase asking words some (known x))
            → IfSome told (λ some. (case : Case ToDo) × IsCase asking words some case × (case_status case ≡ status))
        go None one = tt
        go (Some some) (x, one) = (known x, one, same x)

  line_of : (status : ℕ) (case : Case ToDo) (line l : List ℕ) → case_line case ≡ line → IsOwn line l → IsOwnLine (call status) case l
  line_of status case line l same (inl is) = inr (inl (is ∙ sym same))
  line_of status case line l same (inr is) = inl is

  -- what is told is that of a case that is known
  module _ (X : Type 0) (known : X → Case ToDo) (text : List ℕ) (due : ℕ) (line : List ℕ)
      (is : IfSome files (λ told. (x : X) × IsCase asking words told (known x))) (dues : (x : X) → case_status (known x) ≡ due)
      (lines : (x : X) → case_line (known x) ≡ line) (texts : (x : X) → IsText (known x) text) (tells : IsExplained due) where
    known_status : (status : ℕ) → Outcome text due line out err status
        → For (λ case. Yields (case_status case) (Grew before now) Faults status)
    known_status status (done all taken) =
        for_one X known (λ case. Yields (case_status case) (Grew before now) Faults due) is
        (λ x. subst (λ d. Yields d (Grew before now) Faults due) (sym (dues x)) due_status)
    known_status status (failed part l own taken fails) =
        for_each asking words files (λ case. Yields (case_status case) (Grew before now) Faults 8) (λ case. write_fault (faulty fails))
    known_status status (short part l own taken) =
        for_each asking words files (λ case. Yields (case_status case) (Grew before now) Faults 1) (λ case. no_memory)

    known_told : (status : ℕ) → Outcome text due line out err status → IsExplained status
        → IfSome files (λ told. (case : Case ToDo) × IsCase asking words told case × (case_status case ≡ status))
    known_told status (done all taken) told = told_one X known due is dues
    known_told status (failed part l own taken fails) told = absurd (grind (arith, told))
    known_told status (short part l own taken) told = absurd (grind (arith, told))

    known_among : (status : ℕ) → Outcome text due line out err status → IsExplained status ⊎ (status ≡ 7) ⊎ IsStop status
    known_among status (done all taken) = inl tells
    known_among status (failed part l own taken fails) = inr (inr (inr refl))
    known_among status (short part l own taken) = inr (inr (inl refl))

    known_usage : (due ≡ 2 → explained_by words ≡ None) → (status : ℕ) → Outcome text due line out err status → status ≡ 2
        → explained_by words ≡ None
    known_usage usage status (done all taken) two = usage two
    known_usage usage status (failed part l own taken fails) two = absurd (omega (arith, two))
    known_usage usage status (short part l own taken) two = absurd (omega (arith, two))

    known_none : (explained_by words ≡ None → due ≡ 2) → (status : ℕ) → Outcome text due line out err status → explained_by words ≡ None
        → Yields 2 ⊥ Faults status
    known_none two status (done all taken) none = subst (λ d. Yields d ⊥ Faults due) (two none) due_status
    known_none two status (failed part l own taken fails) none = write_fault (faulty fails)
    known_none two status (short part l own taken) none = no_memory

    known_text : (status : ℕ) → Outcome text due line out err status
        → For (λ case. IsExplained status → (told : List ℕ) × IsText case told × TakesAll out told)
    known_text status (done all taken) =
        for_one X known (λ case. IsExplained due → (told : List ℕ) × IsText case told × TakesAll out told) is (λ x told. (text, texts x, all))
    known_text status (failed part l own taken fails) =
        for_each asking words files (λ case. IsExplained 8 → (told : List ℕ) × IsText case told × TakesAll out told)
        (λ case told. absurd (grind (arith, told)))
    known_text status (short part l own taken) =
        for_each asking words files (λ case. IsExplained 1 → (told : List ℕ) × IsText case told × TakesAll out told)
        (λ case told. absurd (grind (arith, told)))

    known_quiet : (IsWhole due → line ≡ []) → (status : ℕ) → Outcome text due line out err status → IsWhole status → TakesAll err []
    known_quiet none status (done all taken) ran = subst (TakesAll err) (none ran) taken
    known_quiet none status (failed part l own taken fails) ran = absurd (grind (arith, ran))
    known_quiet none status (short part l own taken) ran = absurd (grind (arith, ran))

    known_line : (status : ℕ) → Outcome text due line out err status → For (λ case. HasCaseLine status → TakesAll err (case_line case))
    known_line status (done all taken) =
        for_one X known (λ case. HasCaseLine due → TakesAll err (case_line case)) is (λ x told. subst (TakesAll err) (sym (lines x)) taken)
    known_line status (failed part l own taken fails) =
        for_each asking words files (λ case. HasCaseLine 8 → TakesAll err (case_line case)) (λ case told. absurd (grind (arith, told)))
    known_line status (short part l own taken) =
        for_each asking words files (λ case. HasCaseLine 1 → TakesAll err (case_line case)) (λ case told. absurd (grind (arith, told)))

    known_read : (status : ℕ) → Outcome text due line out err status → status ≡ 7 → ⊥
    known_read status (done all taken) seven = grind (arith, tells, seven)
    known_read status (failed part l own taken fails) seven = omega (arith, seven)
    known_read status (short part l own taken) seven = omega (arith, seven)

    known_write : (status : ℕ) → Outcome text due line out err status → status ≡ 8 → WriteFails out err
    known_write status (done all taken) eight = absurd (grind (arith, tells, eight))
    known_write status (failed part l own taken fails) eight = fails
    known_write status (short part l own taken) eight = absurd (omega (arith, eight))

    abbrev Stopped : Case ToDo → Type 0
    Stopped case = (l : List ℕ) × IsOwnLine (call due) case l × TakesPart err l

    known_stopped : (status : ℕ) → Outcome text due line out err status → IsStop status → For Stopped
    known_stopped status (done all taken) stop = absurd (grind (arith, tells, stop))
    known_stopped status (failed part l own taken fails) stop =
        for_one X known Stopped is (λ x. (l, line_of due (known x) line l (lines x) own, taken))
    known_stopped status (short part l own taken) stop =
        for_one X known Stopped is (λ x. (l, line_of due (known x) line l (lines x) own, taken))

    known_kept : (IsWhole due ⊎ (due ≡ 3) → now ≡ before) → (status : ℕ) → Outcome text due line out err status
        → IsWhole status ⊎ (status ≡ 3) → now ≡ before
    known_kept kept status (done all taken) ran = kept ran
    known_kept kept status (failed part l own taken fails) ran = absurd (grind (arith, ran))
    known_kept kept status (short part l own taken) ran = absurd (grind (arith, ran))

    explains_known : (due ≡ 2 → explained_by words ≡ None) → (explained_by words ≡ None → due ≡ 2) → (IsWhole due → line ≡ [])
        → (IsWhole due ⊎ (due ≡ 3) → now ≡ before) → (explained_by words ≡ None → now ≡ before) → (status : ℕ)
        → Outcome text due line out err status → Explains (call status)
    explains_known usage two none kept unread status ends =
        record {
          status = known_status status ends;
          told = known_told status ends;
          among = known_among status ends;
          usage = known_usage usage status ends;
          no_command = known_none two status ends;
          text = known_text status ends;
          prefix = for_one X known (λ case. (told : List ℕ) × IsOwnText (call status) case told × TakesPart out told) is
              (λ x. (text, inl (texts x), outcome_part text due line out err status ends));
          quiet = known_quiet none status ends;
          line = known_line status ends;
          read_fault = λ seven. absurd (known_read status ends seven);
          write_fault = known_write status ends;
          stopped = known_stopped status ends;
          untouched = known_kept kept status ends;
          unread = unread;
        }

  -- a file could not be read, or memory is out: the case is not told
  module _ (text : List ℕ) (due : ℕ) (line : List ℕ) (yields : (case : Case ToDo) → Yields (case_status case) (Grew before now) Faults due)
      (apart : (due ≡ 7) ⊎ (due ≡ 1)) (none : explained_by words ≡ None → Yields 2 ⊥ Faults due)
      (reads : (status : ℕ) → due ≡ 7 → (TakesAll err line → TellsReadFault asking MayRead (call status)) × IsHint text)
      (texts : (status : ℕ) → TakesPart out text → For (λ case. (told : List ℕ) × IsOwnText (call status) case told × TakesPart out told))
      (lines : For (λ case. IsOwnLine (call due) case line)) where
    other_status : (status : ℕ) → Outcome text due line out err status
        → For (λ case. Yields (case_status case) (Grew before now) Faults status)
    other_status status (done all taken) =
        for_each asking words files (λ case. Yields (case_status case) (Grew before now) Faults due) yields
    other_status status (failed part l own taken fails) =
        for_each asking words files (λ case. Yields (case_status case) (Grew before now) Faults 8) (λ case. write_fault (faulty fails))
    other_status status (short part l own taken) =
        for_each asking words files (λ case. Yields (case_status case) (Grew before now) Faults 1) (λ case. no_memory)

    other_apart : (status : ℕ) → Outcome text due line out err status → (status ≡ 7) ⊎ (status ≡ 1) ⊎ (status ≡ 8)
    other_apart status (done all taken) = grind (arith, apart)
    other_apart status (failed part l own taken fails) = inr (inr refl)
    other_apart status (short part l own taken) = inr (inl refl)

    other_among : (status : ℕ) → (status ≡ 7) ⊎ (status ≡ 1) ⊎ (status ≡ 8) → IsExplained status ⊎ (status ≡ 7) ⊎ IsStop status
    other_among status is = inr is

    other_none : (status : ℕ) → Outcome text due line out err status → explained_by words ≡ None → Yields 2 ⊥ Faults status
    other_none status (done all taken) unread = none unread
    other_none status (failed part l own taken fails) unread = write_fault (faulty fails)
    other_none status (short part l own taken) unread = no_memory

    other_read : (status : ℕ) → Outcome text due line out err status → status ≡ 7
        → TellsReadFault asking MayRead (call status) × (told : List ℕ) × IsHint told × TakesAll out told
    other_read status (done all taken) seven =
        let found = reads due seven in (found.0 taken, text, found.1, all)
    other_read status (failed part l own taken fails) seven = absurd (omega (arith, seven))
    other_read status (short part l own taken) seven = absurd (omega (arith, seven))

    other_write : (status : ℕ) → Outcome text due line out err status → status ≡ 8 → WriteFails out err
    other_write status (done all taken) eight = absurd (grind (arith, apart, eight))
    other_write status (failed part l own taken fails) eight = fails
    other_write status (short part l own taken) eight = absurd (omega (arith, eight))

    abbrev Halted : Case ToDo → Type 0
    Halted case = (l : List ℕ) × IsOwnLine (call due) case l × TakesPart err l

    for_line : (l : List ℕ) → IsOwn line l → TakesPart err l → For Halted
    for_line l (inl is) part = go files lines
      where
        go : (told : Option Files) → ForCase asking words told (λ case. IsOwnLine (call due) case line) → ForCase asking words told Halted
        go None each = tt
        go (Some some) each = λ case is_case. (line, each case is_case, subst (TakesPart err) is part)
    for_line l (inr is) part = for_each asking words files Halted (λ case. (l, inl is, part))

    other_stopped : (status : ℕ) → Outcome text due line out err status → For Halted
    other_stopped status (done all taken) = for_line line (inl refl) (outcome_part line due line err err due (done taken taken))
    other_stopped status (failed part l own taken fails) = for_line l own taken
    other_stopped status (short part l own taken) = for_line l own taken

    explains_other : (explained_by words ≡ None → now ≡ before) → (status : ℕ) → Outcome text due line out err status
        → Explains (call status)
    explains_other unread status ends =
        let is : (status ≡ 7) ⊎ (status ≡ 1) ⊎ (status ≡ 8) = other_apart status ends in
        record {
          status = other_status status ends;
          told = λ told. absurd (grind (arith, is, told));
          among = other_among status is;
          usage = λ two. absurd (grind (arith, is, two));
          no_command = other_none status ends;
          text = for_each asking words files (λ case. IsExplained status → (told : List ℕ) × IsText case told × TakesAll out told)
              (λ case told. absurd (grind (arith, is, told)));
          prefix = texts status (outcome_part text due line out err status ends);
          quiet = λ ran. absurd (grind (arith, is, ran));
          line = for_each asking words files (λ case. HasCaseLine status → TakesAll err (case_line case))
              (λ case told. absurd (grind (arith, is, told)));
          read_fault = other_read status ends;
          write_fault = other_write status ends;
          stopped = λ stop. other_stopped status ends;
          untouched = λ ran. absurd (grind (arith, is, ran));
          unread = unread;
        }

  -- a refusal
  alone : (Is : Files → Type 0) → IfSome files Is → IfSome files (λ told. Unit {0} × Is told)
  alone Is is = go files is
    where
      go : (told : Option Files) → IfSome told Is → IfSome told (λ some. Unit {0} × Is some)
      go None one = tt
      go (Some some) one = (tt, one)

  pub refusal_explains : (refusal : Refusal) (text : List ℕ) (status : ℕ) → TextFor refusal text
      → (explained_by words ≡ None → RefusesWords refusal) → (explained_by words ≡ None → now ≡ before)
      → IfSome files (λ told. RefusesCase (IsCase asking words told) refusal)
      → LeavesShelf (explained_by words) before now refusal
      → TellEnds text (refusal_status refusal) (refusal_line GprsView refusal) out err status → Explains (call status)
  refusal_explains RefusedUsage text status hint untold unread is shelf ends =
      explains_known (Unit {0}) (λ _. Refused 2 [] (usage_line GprsView)) text 2 (tool_line GprsView (usage_line GprsView))
      (alone (λ told. IsCase asking words told (Refused 2 [] (usage_line GprsView))) (known files)) (λ _. refl) (λ _. refl)
      (λ _. inr (inr hint)) (inr (inl refl)) (λ _. shelf.0) (λ _. refl) (λ ran. absurd (grind (arith, ran))) (λ _. shelf.1) unread status
      (outcome text 2 (tool_line GprsView (usage_line GprsView)) out err status ends)
    where
      known : (told : Option Files) → IfSome told (λ some. IsCase asking words some (Refused 2 [] (usage_line GprsView)))
      known None = tt
      known (Some some) = no_command shelf.0
  refusal_explains (RefusedProgram told) text status some_words untold unread is shelf ends =
      explains_known Name (λ name. Refused 3 (name ∷ []) told) text 3 (tool_line GprsView told) is (λ _. refl) (λ _. refl)
      (λ _. inl refl) (inr (inr (inl refl))) (λ two. absurd (omega (arith, two))) (λ none. absurd (untold none))
      (λ ran. absurd (grind (arith, ran))) (λ _. shelf) unread status
      (outcome text 3 (tool_line GprsView told) out err status ends)
  refusal_explains (RefusedInput told) text status some_words untold unread is shelf ends =
      explains_known (List Name) (λ names. Refused 4 names told) text 4 (tool_line GprsView told) is (λ _. refl) (λ _. refl)
      (λ _. inr (inl refl)) (inr (inr (inr refl))) (λ two. absurd (omega (arith, two))) (λ none. absurd (untold none))
      (λ ran. absurd (grind (arith, ran))) (λ ran. absurd (grind (arith, ran))) unread status
      (outcome text 4 (tool_line GprsView told) out err status ends)
  refusal_explains (ReadFault name) text status hint untold unread is shelf ends =
      explains_other text 7 (tool_line GprsView (read_fault_line name)) (λ case. read_fault shelf.1) (inl refl)
      (λ none. absurd (untold none))
      (λ status seven. (
        (λ all. record { name = name; read = read_in files is; asked = shelf.2; alone = shelf.0; grew = shelf.1; line = all }),
        hint,
      ))
      (λ status part. for_each asking words files (λ case. (told : List ℕ) × IsOwnText (call status) case told × TakesPart out told)
      (λ case. (text, inr (shelf.1, hint), part)))
      (line_in files is) unread status (outcome text 7 (tool_line GprsView (read_fault_line name)) out err status ends)
    where
      read_in : (told : Option Files)
          → IfSome told (λ some. (case : Case ToDo) × IsCase asking words some case × Contains (names_read case) name)
          → ForCase asking words told (λ case. Contains (names_read case) name)
      read_in None one = tt
      read_in (Some some) (case, one, reads) =
          for_known asking explain_case words (Some some) case (λ c. Contains (names_read c) name) one reads

      line_in : (told : Option Files)
          → IfSome told (λ some. (case : Case ToDo) × IsCase asking words some case × Contains (names_read case) name)
          → ForCase asking words told (λ case. IsOwnLine (call 7) case (tool_line GprsView (read_fault_line name)))
      line_in None one = tt
      line_in (Some some) (case, one, reads) =
          for_known asking explain_case words (Some some) case
          (λ c. IsOwnLine (call 7) c (tool_line GprsView (read_fault_line name))) one (inr (inr (shelf.1, name, reads, refl)))
  refusal_explains OutOfMemory text status no_text untold unread is shelf ends =
      explains_other [] 1 (tool_line GprsView out_of_memory_line) (λ case. no_memory) (inr refl) (λ none. no_memory)
      (λ status seven. absurd (omega (arith, seven)))
      (λ status part. for_each asking words files (λ case. (told : List ℕ) × IsOwnText (call status) case told × TakesPart out told)
      (λ case. let some = some_text case in (some.0, inl some.1, none_part out some.0 part)))
      (for_each asking words files (λ case. IsOwnLine (call 1) case (tool_line GprsView out_of_memory_line)) (λ case. inl (inl refl)))
      unread status
      (outcome [] 1 (tool_line GprsView out_of_memory_line) out err status
      (subst (λ t. TellEnds t 1 (tool_line GprsView out_of_memory_line) out err status) no_text ends))

  -- a run
  end_tells : (e : End) → IsWhole (end_status e)
  end_tells Finished = inl refl
  end_tells (Stuck why thread line) = inr (inl refl)
  end_tells (Spent position) = inr (inr refl)

  not_usage : (e : End) → end_status e ≡ 2 → ⊥
  not_usage Finished two = omega (arith, two)
  not_usage (Stuck why thread line) two = omega (arith, two)
  not_usage (Spent position) two = omega (arith, two)

  pub run_explains : (names : List Name) (work : ToDo) (asked : Asked) (status : ℕ) → explained_by words ≡ Some asked
      → IfSome files (λ told. IsCase asking words told (Go names work)) → now ≡ before → RunTold work out err status
      → Explains (call status)
  run_explains names work asked status some is same (text, is_text, ends) =
      let ending = (plain_ran work).end in
      explains_known (Unit {0}) (λ _. Go names work) text (end_status ending) [] (alone (λ told. IsCase asking words told (Go names work)) is)
      (λ _. refl) (λ _. refl) (λ _. is_text) (inl (end_tells ending)) (λ two. absurd (not_usage ending two))
      (λ none. absurd (let never : None ≡ Some asked = sym none ∙ some in cc)) (λ _. refl) (λ _. same) (λ _. same) status
      (outcome text (end_status ending) [] out err status ends)
