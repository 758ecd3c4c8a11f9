-- How the answer to the file of a trace stands to what that comes to.
use Rattle.std.specs.Prelude.{◌≡◌, ℕ, List, [], ◌∷◌, ◌++◌, Option, Some, Result, Ok, Err, ⊤}
use Rattle.task_ast.specs.meaning.Tree.{Name}
use Rattle.gp_audit.specs.declared.line.TraceLine.{TraceLine}
use Rattle.call_cases.specs.declared.reading.Refusal.{Refusal}
use Rattle.call_cases.specs.declared.reading.Refusal.TheVariants.{BadInput, ReadFault, OutOfMemory}
use Rattle.call_cases.specs.meaning.Work.{ToDo, Case, Refused, Go}
use Rattle.call_cases.specs.meaning.InputFiles.{ReadsFile}
use Rattle.view_calls.specs.meaning.Sights.{Sight, Sees}

-- what comes of the file of a trace with these bytes, or of none, after these files
abbrev pub Traced : (names : List Name) → (file : Name) → (position : Option ℕ) → ToDo → Option (List ℕ) → Case Sight → Type 0
Traced names file position work bytes = ReadsFile names file bytes (Sees file (names ++ file ∷ []) position work)

-- the answer to such a file
abbrev pub AnswersLines : (names : List Name) → (file : Name) → (position : Option ℕ) → ToDo → Option (List ℕ)
    → Result (List TraceLine) Refusal → Type 0
AnswersLines names file position work bytes (Ok lines) =
    Traced names file position work bytes (Go (names ++ file ∷ []) (record { work = work; position = position; trace = Some lines }))
AnswersLines names file position work bytes (Err (BadInput line)) =
    Traced names file position work bytes (Refused 4 (names ++ file ∷ []) line)
AnswersLines names file position work bytes (Err (ReadFault name)) = file ≡ name
AnswersLines names file position work bytes (Err OutOfMemory) = ⊤
AnswersLines names file position work bytes (Err refusal) = ⊥
