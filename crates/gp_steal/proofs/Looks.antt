-- What a clerk has seen after a look.
use Rattle.std.proofs.Common.{ℕ, ◌<◌, ◌≤◌, Bool, true, false, nat_lt, cond, List, [], ◌∷◌, ◌++◌, sym, subst}
use Rattle.std.specs.Prelude.{Contains, All}
use Rattle.std.proofs.lemmas.List.Elements.{All-cons, All-nil, All-append}
use Rattle.std.proofs.lemmas.Bool.{le-ltb}
use Rattle.desk_board.proofs.DeskLists.{contains_last}

pub seen_below : (m k n : ℕ) (seen : List ℕ) → k < m → All (λ d. d < m) seen → All (λ d. d < m) (cond (nat_lt n 2) seen (seen ++ k ∷ []))
seen_below m k n seen l all = go (nat_lt n 2)
  where
    go : (b : Bool) → All (λ d. d < m) (cond b seen (seen ++ k ∷ []))
    go true = all
    go false = All-append (λ d. d < m) seen (k ∷ []) all (All-cons (λ d. d < m) k [] l (All-nil (λ d. d < m)))

pub seen_now : (k n : ℕ) (seen : List ℕ) → 2 ≤ n → Contains (cond (nat_lt n 2) seen (seen ++ k ∷ [])) k
seen_now k n seen h = subst (λ (b : Bool). Contains (cond b seen (seen ++ k ∷ [])) k) (sym (le-ltb n 2 h)) (contains_last k seen)
