-- The case of a call: what it comes to by its words and the files alone.
use Rattle.std.specs.Prelude.{◌≡◌, ℕ, ◌==◌, true, List, [], ◌∷◌, IfSome, ⊤, if◌then◌else◌}
use Rattle.std.specs.declared.option.Option.{Option}
use Rattle.std.specs.declared.option.Option.TheVariants.{None, Some}
use Rattle.gp_base.specs.meaning.Files.{bytes_of}
use Rattle.task_ast.specs.declared.check_kind.CheckKind.{CheckKind}
use Rattle.task_ast.specs.meaning.Tree.{Name, Program}
use Rattle.task_ast.specs.meaning.Check.{check_fault}
use Rattle.task_parser.specs.meaning.Spelling.{Meaning, Means, Stands, LexFails, ParseFails}
use Rattle.call_cases.specs.declared.lines.Tool.{Tool}
use Rattle.call_cases.specs.meaning.Work.{Files, Case, Refused, Go, absent_case, after_file}
use Rattle.call_cases.specs.meaning.Commands.{Asking, Commands}
use Rattle.call_cases.specs.meaning.Lines.{tool_line, usage_line, lex_line, parse_line, check_line}

module _ {A T : Type 0} (asking : Asking A T) (files : Files) (asked : A) where
  -- the case of a text, by what it means: a program is refused with the line of its first fault, or the files beside it are read
  abbrev pub IsCheckedCase : Program → Option (CheckKind × ℕ) → Case T → Type 0
  IsCheckedCase program (Some fault) case = case ≡ Refused 3 (asking.program asked ∷ []) (check_line fault.0 fault.1)
  IsCheckedCase program None case = (given : Case T) × asking.supplies asked program files given × (case ≡ after_file (asking.program asked) given)

  abbrev pub IsMeantCase : Meaning → Case T → Type 0
  IsMeantCase (LexFails fault) case = case ≡ Refused 3 (asking.program asked ∷ []) (lex_line fault)
  IsMeantCase (ParseFails fault) case = case ≡ Refused 3 (asking.program asked ∷ []) (parse_line fault)
  IsMeantCase (Stands program) case = IsCheckedCase program (check_fault program) case

-- the case of what is asked, over these files
pub data IsCaseOf {A T : Type 0} (asking : Asking A T) (asked : A) (files : Files) : Case T → Type 0 where
  no_program : bytes_of files (asking.program asked) ≡ None → IsCaseOf asking asked files (absent_case [] (asking.program asked))
  of_text : {text : List ℕ} {case : Case T} (meaning : Meaning) → bytes_of files (asking.program asked) ≡ Some text → Means text meaning
      → IsMeantCase asking files asked meaning case → IsCaseOf asking asked files case

-- the case of a call with these words, where the shelf has these files
pub data IsCase {A T : Type 0} (asking : Asking A T) (words : List (List ℕ)) (files : Files) : Case T → Type 0 where
  no_command : asking.reading words ≡ None → IsCase asking words files (Refused 2 [] (usage_line asking.tool))
  asks : {asked : A} {case : Case T} → asking.reading words ≡ Some asked → IsCaseOf asking asked (asking.files asked files) case
      → IsCase asking words files case

-- a fact about the case of a call, where the files are told
abbrev pub ForCase : {A T : Type 0} → Asking A T → List (List ℕ) → Option Files → (Case T → Type 0) → Type 0
ForCase {T} asking words files P = IfSome files (λ files. (case : Case T) → IsCase asking words files case → P case)

-- what the error stream is to take: this at the end of what is done, or the line of a refusal, but that of a file that is
-- not there is due once a read of it failed
abbrev pub due_of : {T : Type 0} → Tool → Case T → (error : List ℕ) → List ℕ
due_of tool (Refused status names line) error = if status == 7 then [] else tool_line tool line
due_of tool (Go names work) error = error

-- the files that are read, in the order of reading
abbrev pub names_read : {T : Type 0} → Case T → List Name
names_read (Refused status names line) = names
names_read (Go names work) = names

-- there is something to be done
abbrev pub HasWork : {T : Type 0} → Case T → Type 0
HasWork (Refused status names line) = ⊥
HasWork (Go names work) = ⊤

module _ {A T : Type 0} (commands : Commands A T) where
  -- the status that the case calls for
  abbrev pub status_of : Case T → ℕ
  status_of (Refused status names line) = status
  status_of (Go names work) = commands.status work

  -- the text of the case
  abbrev pub text_of : Case T → List ℕ
  text_of (Refused status names line) = []
  text_of (Go names work) = commands.text work

  -- what holds of what is to be done, where a run over a journal begins for it
  abbrev pub ForRun : Case T → (T → Type 0) → Type 0
  ForRun (Refused status names line) P = ⊤
  ForRun (Go names work) P = commands.has_journal work ≡ true → P work
