-- The dependents of a position: what a restart redoes with it (selective restart: Gupta, Sridharan and Sohi, PLDI 2014).
use Rattle.std.specs.Prelude.{ℕ, zero, suc, Bool, cond, nat_eq, ◌||◌, List, [], ◌∷◌, ◌++◌}
use Rattle.std.specs.List.{list_any}

-- whether the number stands in the list
abbrev pub is_member : ℕ → List ℕ → Bool
is_member p list = list_any (nat_eq p) list

-- the dependents of `first` below the front, in rising order: `first` itself, and each that is in conflict with a member before it
abbrev pub dependents : (clash : ℕ → ℕ → Bool) → (first front : ℕ) → List ℕ
dependents clash first zero = []
dependents clash first (suc q) =
    cond (nat_eq q first || list_any (λ p. clash p q) (dependents clash first q))
    (dependents clash first q ++ q ∷ [])
    (dependents clash first q)
