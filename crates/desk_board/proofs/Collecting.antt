-- A clerk that collects all desks in order.
use Rattle.std.proofs.Common.{◌≡◌, ℕ, zero, suc, ◌+◌, ◌<◌, List, [], ◌∷◌, ◌++◌, length, subst, arith}
use Rattle.std.specs.Prelude.{Some, Contains, All, slice_get}
use Rattle.std.proofs.lemmas.List.Elements.{All-cons, All-nil, All-append}
use Rattle.std.proofs.lemmas.Option.{slice_get_within}
use Rattle.desk_board.proofs.DeskLists.{below_from}

-- what was taken so far stands below the next desk
pub taken_more : (k : ℕ) (taken : List ℕ) → All (λ d. d < k) taken → All (λ d. d < k + 1) (taken ++ k ∷ [])
taken_more k taken all =
    All-append (λ d. d < k + 1) taken (k ∷ []) (λ i d l. (let h = all i d l in omega arith))
    (All-cons (λ d. d < k + 1) k [] (omega arith) (All-nil (λ d. d < k + 1)))

pub not_taken : (k : ℕ) (taken : List ℕ) → All (λ d. d < k) taken → ¬ (Contains taken k)
not_taken k taken all c = let l = below_from k k taken all c in omega arith

-- what holds of each run, and of one more
pub runs_more : {R : Type 0} (P : ℕ → R → Type 0) (xs : List R) (x : R) → ((k : ℕ) (y : R) → slice_get xs k ≡ Some y → P k y)
    → P (length xs) x → (k : ℕ) (y : R) → slice_get (xs ++ x ∷ []) k ≡ Some y → P k y
runs_more P [] x all one zero y e = let same : x ≡ y = cc in subst (P 0) same one
runs_more P [] x all one (suc k) y e = absurd (let l = slice_get_within [] k y e in omega arith)
runs_more P (z ∷ zs) x all one zero y e = all 0 y e
runs_more P (z ∷ zs) x all one (suc k) y e = runs_more (λ i. P (suc i)) zs x (λ i w h. all (suc i) w h) one k y e
