-- Desks that were claimed once each, and tasks that are taken off them in order.
use Rattle.std.proofs.Common.{◌≡◌, ℕ, zero, suc, ◌+◌, ◌<◌, ◌≤◌, List, [], ◌∷◌, ◌++◌, length, take, refl, sym, ap, ◌∙◌, arith, lt_of_not-le}
use Rattle.std.specs.Prelude.{Some, slice_get}
use Rattle.std.proofs.Math.Numerals.{add-one}
use mathlib.Core.Logic.{dite}
use native.Mathlib.Decide.{ℕ_discrete, dec_le}
use Rattle.desk_board.specs.Rule.{times}
use Rattle.desk_board.proofs.Tallies.{times_cons, one_same, one_other}
use Rattle.gp_steal.specs.Told.{EachOnce}

-- how often the numbers below m stand in the list
total : ℕ → List ℕ → ℕ
total zero xs = 0
total (suc m) xs = total m xs + times m xs

total_none : (m : ℕ) → total m [] ≡ 0
unfolding total
total_none zero = refl
total_none (suc m) =
    let rest = total_none m in
    let none : times m [] ≡ 0 = refl in
    let whole : total (suc m) [] ≡ total m [] + times m [] = refl in
    omega arith

-- a number below m adds one, another none
total_else : (m x : ℕ) (xs : List ℕ) → m ≤ x → total m (x ∷ xs) ≡ total m xs
unfolding total
total_else zero x xs l = refl
total_else (suc m) x xs l =
    let rest = total_else m x xs (omega arith) in
    let one = one_other m x (λ e. omega arith) in
    let cons = times_cons m x xs in
    let before : total (suc m) (x ∷ xs) ≡ total m (x ∷ xs) + times m (x ∷ xs) = refl in
    let after : total (suc m) xs ≡ total m xs + times m xs = refl in
    omega arith

total_one : (m x : ℕ) (xs : List ℕ) → x < m → total m (x ∷ xs) ≡ total m xs + 1
unfolding total
total_one zero x xs l = absurd (omega arith)
total_one (suc m) x xs l =
    let cons = times_cons m x xs in
    let before : total (suc m) (x ∷ xs) ≡ total m (x ∷ xs) + times m (x ∷ xs) = refl in
    let after : total (suc m) xs ≡ total m xs + times m xs = refl in
    dite (ℕ_discrete x m)
    (λ e. let one = one_same m x e in let rest = total_else m x xs (omega arith) in omega arith)
    (λ ne. let one = one_other m x ne in let rest = total_one m x xs (omega arith) in omega arith)

-- a list of numbers below m has as many members as they stand in it
total_length : (m : ℕ) (xs : List ℕ) → ((k : ℕ) → m ≤ k → times k xs ≡ 0) → total m xs ≡ length xs
total_length m [] none = total_none m
total_length m (x ∷ xs) none =
    let below : x < m =
    dite (dec_le m x) (λ l. absurd (let past = none x l in let cons = times_cons x x xs in let one = one_same x x refl in omega arith))
    (λ n. lt_of_not-le n) in
    let rest = total_length m xs (λ k l. let past = none k l in let cons = times_cons k x xs in omega arith) in
    let more = total_one m x xs below in omega arith

total_each : (m : ℕ) (xs : List ℕ) → ((k : ℕ) → k < m → times k xs ≡ 1) → total m xs ≡ m
unfolding total
total_each zero xs each = refl
total_each (suc m) xs each = let rest = total_each m xs (λ k l. each k (omega arith)) in let last = each m (omega arith) in
    let whole : total (suc m) xs ≡ total m xs + times m xs = refl in omega arith

-- where each of m desks stands once in a list, and nothing else, it has m members
pub length_once : (m : ℕ) (xs : List ℕ) → EachOnce m xs → length xs ≡ m
length_once m xs once = sym (total_length m xs once.1) ∙ total_each m xs once.0

take-suc : {X : Type 0} (xs : List X) (k : ℕ) (x : X) → slice_get xs k ≡ Some x → take (suc k) xs ≡ take k xs ++ x ∷ []
take-suc [] k x e = cc
take-suc (y ∷ ys) zero x e = cc
take-suc (y ∷ ys) (suc k) x e = ap (λ l. y ∷ l) (take-suc ys k x e)

-- one more member of a list is taken
pub take-more : {X : Type 0} (xs : List X) (k : ℕ) (x : X) → slice_get xs k ≡ Some x → take (k + 1) xs ≡ take k xs ++ x ∷ []
take-more xs k x e = rw add-one (take-suc xs k x e)
