-- What an answer tells of the case of a call, whatever its words may ask for.
use Rattle.std.proofs.Common.{◌≡◌, ℕ, List, [], ◌∷◌, IfSome}
use Rattle.std.specs.declared.option.Option.{Option}
use Rattle.std.specs.declared.option.Option.TheVariants.{None, Some}
use Rattle.std.specs.declared.result.Result.{Result}
use Rattle.std.specs.declared.result.Result.TheVariants.{Ok, Err}
use Rattle.call_cases.specs.declared.reading.Refusal.{Refusal}
use Rattle.call_cases.specs.declared.reading.Refusal.TheVariants.{Usage as RefusedUsage, BadProgram as RefusedProgram, BadInput as RefusedInput, ReadFault, OutOfMemory}
use Rattle.call_cases.specs.meaning.Work.{Files, Case, Refused}
use Rattle.call_cases.specs.meaning.Lines.{usage_line}
use Rattle.call_cases.specs.meaning.Commands.{Asking}
use Rattle.call_cases.specs.meaning.Case.{IsCaseOf, no_program, of_text, IsCase, no_command, asks}
use Rattle.call_cases.specs.Refusals.{RefusesCase, AnswersCase}

-- an answer tells one case where it tells another
pub refuses_map : {T : Type 0} (Is Js : Case T → Type 0) → ((case : Case T) → Is case → Js case) → (refusal : Refusal)
    → RefusesCase Is refusal → RefusesCase Js refusal
refuses_map Is Js to RefusedUsage (line, is) = (line, to (Refused 2 [] line) is)
refuses_map Is Js to (RefusedProgram line) (name, is) = (name, to (Refused 3 (name ∷ []) line) is)
refuses_map Is Js to (RefusedInput line) (names, is) = (names, to (Refused 4 names line) is)
refuses_map Is Js to (ReadFault name) (case, is, reads) = (case, to case is, reads)
refuses_map Is Js to OutOfMemory is = tt

pub answers_map : {R T : Type 0} (case_of : R → Case T) (Is Js : Case T → Type 0) → ((case : Case T) → Is case → Js case)
    → (result : Result R Refusal)
    → AnswersCase case_of Is result → AnswersCase case_of Js result
answers_map case_of Is Js to (Ok request) is = to (case_of request) is
answers_map case_of Is Js to (Err refusal) is = refuses_map Is Js to refusal is

module _ {A T : Type 0} (asking : Asking A T) (words : List (List ℕ)) where
  -- words of no command
  pub usage_case : (told : Option Files) → asking.reading words ≡ None
      → IfSome told (λ files. RefusesCase (IsCase asking words files) RefusedUsage)
  usage_case None none = tt
  usage_case (Some files) none = (usage_line asking.tool, no_command none)

  -- the case of what is asked is that of the words that ask for it
  pub asked_case : {R : Type 0} (case_of : R → Case T) (told : Option Files) (asked : A) (result : Result R Refusal)
      → asking.reading words ≡ Some asked
      → IfSome told (λ files. AnswersCase case_of (IsCaseOf asking asked (asking.files asked files)) result)
      → IfSome told (λ files. AnswersCase case_of (IsCase asking words files) result)
  asked_case case_of None asked result some is = tt
  asked_case case_of (Some files) asked result some is =
      answers_map case_of (IsCaseOf asking asked (asking.files asked files)) (IsCase asking words files)
      (λ case known. asks some known) result is

-- the case of what is asked, by whatever words it may be asked for
pub same_case : {A T : Type 0} (asking : Asking A T) (reading : List (List ℕ) → Option A) (asked : A) (files : Files) (case : Case T)
    → IsCaseOf asking asked files case → IsCaseOf (record asking { reading = reading }) asked files case
same_case asking reading asked files case (no_program absent) = no_program absent
same_case asking reading asked files case (of_text meaning there means is) = of_text meaning there means is
