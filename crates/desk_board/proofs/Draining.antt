-- A pass that draws until it ends: each draw leaves fewer desks above those drawn.
use Rattle.std.proofs.Common.{◌≡◌, ℕ, suc, ◌+◌, ◌-◌, ◌<◌, ◌≤◌, max, List, [], ◌∷◌, ◌++◌, length, arith}
use Rattle.std.specs.Prelude.{Some, All, slice_get}
use Rattle.std.proofs.lemmas.Option.{slice_get_within}

-- one more than the highest desk of a list
abbrev pub past : List ℕ → ℕ
past [] = 0
past (x ∷ xs) = max (x + 1) (past xs)

past_le : (k : ℕ) (xs : List ℕ) → All (λ d. d < k) xs → past xs ≤ k
past_le k [] all = omega arith
past_le k (x ∷ xs) all = let h = all 0 x (omega arith) in let t = past_le k xs (λ i d l. all (suc i) d (omega arith)) in omega (arith, h, t)

past_more : (k : ℕ) (xs : List ℕ) → All (λ d. d < k) xs → past (xs ++ k ∷ []) ≡ k + 1
past_more k [] all = omega arith
past_more k (x ∷ xs) all =
    let h = all 0 x (omega arith) in
    let t = past_more k xs (λ i d l. all (suc i) d (omega arith)) in
    omega (arith, h, t)

-- a draw leaves fewer desks above those drawn
pub fewer : {J : Type 0} (jobs : List J) (job : J) (k : ℕ) (xs : List ℕ) → slice_get jobs k ≡ Some job → All (λ d. d < k) xs
    → length jobs - past (xs ++ k ∷ []) < length jobs - past xs
fewer jobs job k xs has all = let l = slice_get_within jobs k job has in omega (arith, l, past_more k xs all, past_le k xs all)
