-- That a call has one case.
use Rattle.std.specs.Prelude.{◌≡◌, ℕ, List}
use Rattle.call_cases.specs.meaning.Work.{Files, Case}
use Rattle.call_cases.specs.meaning.Commands.{Asking}
use Rattle.call_cases.specs.meaning.Case.{IsCase}

-- each call whose words ask for this has a case, and no other
pub record HasOneCase {A T : Type 0} (asking : Asking A T) : Type 0 where
  pub some : (words : List (List ℕ)) (files : Files) → (case : Case T) × IsCase asking words files case
  pub one : (words : List (List ℕ)) (files : Files) (a b : Case T) → IsCase asking words files a → IsCase asking words files b → a ≡ b
