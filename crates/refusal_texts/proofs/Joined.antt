-- Pieces that are put one after the other at the end of a text.
use Rattle.std.proofs.Common.{◌≡◌, ◌∙◌, ℕ, List, ◌++◌, ap, append_assoc}

regrouped : (old p m n k r : List ℕ) → ((((old ++ p) ++ m) ++ n) ++ k) ++ r ≡ old ++ ((((p ++ m) ++ n) ++ k) ++ r)
regrouped old p m n k r = simp append_assoc

pub five : (old p m n k r a b c d e : List ℕ) → a ≡ old ++ p → b ≡ a ++ m → c ≡ b ++ n → d ≡ c ++ k → e ≡ d ++ r
    → e ≡ old ++ ((((p ++ m) ++ n) ++ k) ++ r)
five old p m n k r a b c d e is_a is_b is_c is_d is_e =
    is_e
    ∙ ap (λ (l : List ℕ). l ++ r) (is_d ∙ ap (λ (l : List ℕ). l ++ k) (is_c ∙ ap (λ (l : List ℕ). l ++ n) (is_b ∙ ap (λ (l : List ℕ). l ++ m) is_a)))
    ∙ regrouped old p m n k r
