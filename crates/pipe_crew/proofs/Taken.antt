-- Runs that come off a board in the order of its desks.
use Rattle.std.proofs.Common.{◌≡◌, ℕ, zero, suc, ◌+◌, ◌≤◌, max, List, [], ◌∷◌, ◌++◌, take, drop, not, cond, refl, ap, ◌∙◌, eq-eqb, rules, arith}
use Rattle.std.specs.Prelude.{Some, slice_get}
use Rattle.std.specs.Ordering.{ord_max, nat_cmp}
use Rattle.std.proofs.Math.Numerals.{add-one}
use Rattle.desk_board.specs.declared.view.Hand.{Hand}
use Rattle.desk_board.specs.Told.{without, hand_drew, hand_finished}

take-suc : {X : Type 0} (xs : List X) (k : ℕ) (x : X) → slice_get xs k ≡ Some x → take (suc k) xs ≡ take k xs ++ x ∷ []
take-suc [] k x e = cc
take-suc (y ∷ ys) zero x e = cc
take-suc (y ∷ ys) (suc k) x e = ap (λ l. y ∷ l) (take-suc ys k x e)

drop-suc : {X : Type 0} (xs : List X) (k : ℕ) (x : X) → slice_get xs k ≡ Some x → drop k xs ≡ x ∷ drop (suc k) xs
drop-suc [] k x e = cc
drop-suc (y ∷ ys) zero x e = cc
drop-suc (y ∷ ys) (suc k) x e = drop-suc ys k x e

-- one more member of a list is taken
pub take-more : {X : Type 0} (xs : List X) (k : ℕ) (x : X) → slice_get xs k ≡ Some x → take (k + 1) xs ≡ take k xs ++ x ∷ []
take-more xs k x e = rw add-one (take-suc xs k x e)

-- and the others are left
pub drop-more : {X : Type 0} (xs : List X) (k : ℕ) (x : X) → slice_get xs k ≡ Some x → drop k xs ≡ x ∷ drop (k + 1) xs
drop-more xs k x e = rw add-one (drop-suc xs k x e)

-- a pass that holds nothing holds nothing again once it has put back the run of the desk that it drew
pub idle_again : (k : ℕ) (before drew after : Hand) → drew ≡ hand_drew k before → after ≡ hand_finished k drew → before.held ≡ []
    → after.held ≡ []
idle_again k before drew after draws finishes idle =
    ap (λ (h : Hand). h.held) finishes ∙ ap (λ (h : Hand). without k h.held) draws ∙ ap (λ (l : List ℕ). without k (l ++ k ∷ [])) idle
    ∙ ap (λ b. cond (not b) (k ∷ []) []) (eq-eqb k k refl)

-- and its share is what it was
pub share_kept : (k : ℕ) (before drew after : Hand) → drew ≡ hand_drew k before → after ≡ hand_finished k drew
    → after.share ≡ before.share
share_kept k before drew after draws finishes = ap (λ (h : Hand). h.share) finishes ∙ ap (λ (h : Hand). h.share) draws

-- and so are the passes that it is made of
pub passes_kept : (k : ℕ) (before drew after : Hand) → drew ≡ hand_drew k before → after ≡ hand_finished k drew
    → after.passes ≡ before.passes
passes_kept k before drew after draws finishes = ap (λ (h : Hand). h.passes) finishes ∙ ap (λ (h : Hand). h.passes) draws

-- the greater of two numbers is at most as large as what both are
pub greater_within : (a b r most : ℕ) → r ≡ ord_max nat_cmp a b → a ≤ most → b ≤ most → r ≤ most
greater_within a b r most is low low' = let same : ord_max nat_cmp a b ≡ max a b = search rules in omega arith
