-- Stores of two record cells, each under a lock cell of its own.
use Rattle.std.specs.Prelude.{◌≡◌, ℕ, false, List, [], ◌∷◌, length}
use Rattle.record_store.specs.Stored.{Stored}

abbrev pub each_alone : List (List ℕ)
each_alone = (0 ∷ []) ∷ (1 ∷ []) ∷ []

-- two threads, and two cells at home
pub record IsPair (s : Stored) : Type 0 where
  pub threads : length s.threads ≡ 2
  pub cells : length s.cells ≡ 2
  pub under : s.under ≡ each_alone
  pub away : s.away ≡ false ∷ false ∷ []
