-- What can be decided.
use Rattle.std.proofs.Common.{◌≡◌, ◌⊎◌, inl, inr, ◌<◌, ℕ, zero, suc, ℤ, Bool, true, false, List, [], ◌∷◌, ◌++◌, get_or, length, refl, sym, subst, arith}
use Rattle.std.specs.Prelude.{All, Contains, IsTrue, ◌≤ℤ◌}
use Rattle.std.specs.Bool.{Decides}
use Rattle.std.specs.Ordering.{int_eq}
use Rattle.std.specs.Int.Signed.{◌<ℤ◌, clash_ℤ}
use Rattle.std.proofs.lemmas.Bool.{cases_eq}
use Rattle.std.proofs.lemmas.Bool.Decides.{Decides-int_eq}
use Rattle.std.proofs.lemmas.Int.{by_lt_z}
use Rattle.std.proofs.lemmas.List.Elements.{All-nil, All-cons, All-head, All-tail, Contains-append_right}

-- it holds, or it doesn't
abbrev pub Choice : Type 0 → Type 0
Choice P = P ⊎ (P → ⊥)

decided-by : {P : Type 0} (b : Bool) → Decides b P → Choice P
decided-by true decides = inl (decides.0 refl)
decided-by false decides = inr (λ p. let never : false ≡ true = decides.1 p in cc never)

pub same-choice : {P Q : Type 0} → (P → Q) → (Q → P) → Choice P → Choice Q
same-choice to from (inl is) = inl (to is)
same-choice to from (inr not) = inr (λ q. not (from q))

pub is-true : (b : Bool) → Choice (IsTrue b)
is-true true = inl refl
is-true false = inr (λ e. cc e)

pub is-false : (b : Bool) → Choice (b ≡ false)
is-false true = inr (λ e. cc e)
is-false false = inl refl

pub same-int : (a b : ℤ) → Choice (a ≡ b)
same-int a b = decided-by (int_eq a b) (Decides-int_eq a b)

pub no-more : (a b : ℤ) → Choice (a ≤ℤ b)
no-more a b = by_lt_z {P = Choice (a ≤ℤ b)} b a (λ (l : b <ℤ a). inr (λ h. clash_ℤ l h)) (λ (h : a ≤ℤ b). inl h)

-- whether a list of bytes begins with another
pub begins : (xs ys : List ℕ) → Choice ((rest : List ℕ) × (ys ≡ xs ++ rest))
begins [] ys = inl (ys, refl)
begins (x ∷ xs) [] = inr (λ found. let e = found.1 in cc e)
begins (x ∷ xs) (y ∷ ys) =
    elim (cases_eq x y) [
      | inl heads ↦ elim (begins xs ys) [
        | inl found ↦ inl (found.0, (let tails = found.1 in λ i. sym heads i ∷ tails i))
        | inr not ↦ inr (λ found. not (found.0, (let e = found.1 in let tails : ys ≡ xs ++ found.0 = cc e in tails)))
      ]
      | inr other ↦ inr (λ found. other (let e = found.1 in let back : y ≡ x = cc e in sym back))
    ]

-- whether a number below the limit has a property that each number has or has not
pub below : (P : ℕ → Type 0) (n : ℕ) → ((k : ℕ) → Choice (P k)) → Choice ((k : ℕ) × (k < n) × P k)
below P zero choose = inr (λ found. let none = found.1 in absurd (omega (arith, none)))
below P (suc n) choose =
    elim (choose n) [
      | inl here ↦ inl (n, omega arith, here)
      | inr not ↦ elim (below P n choose) [
        | inl found ↦ inl (found.0, (let low = found.1 in omega (arith, low)), found.2)
        | inr none ↦ inr (λ found. elim (cases_eq found.0 n) [
          | inl same ↦ not (subst P same found.2)
          | inr other ↦ none (found.0, (let low = found.1 in omega (arith, low, other)), found.2)
        ])
      ]
    ]

module _ {A : Type 0} (P : A → Type 0) (choose : (x : A) → Choice (P x)) where
  pub all : (xs : List A) → Choice (All P xs)
  all [] = inl (All-nil P)
  all (x ∷ xs) =
      elim (choose x) [
        | inl here ↦ elim (all xs) [
          | inl rest ↦ inl (All-cons P x xs here rest)
          | inr not ↦ inr (λ h. not (All-tail P x xs h))
        ]
        | inr not ↦ inr (λ h. not (All-head P x xs h))
      ]

-- whether a byte stands in bytes
pub contains : (byte : ℕ) (bytes : List ℕ) → Choice (Contains bytes byte)
contains byte [] = inr (λ c. let none = c.1 in absurd (omega (arith, none)))
contains byte (b ∷ bytes) =
    elim (cases_eq b byte) [
      | inl here ↦ inl (0, omega arith, here)
      | inr other ↦ elim (contains byte bytes) [
        | inl later ↦ inl (Contains-append_right (b ∷ []) bytes byte later)
        | inr not ↦ inr (λ c. go other not c.0 c.1 c.2)
      ]
    ]
  where
    go : (b ≡ byte → ⊥) → (Contains bytes byte → ⊥) → (k : ℕ) → k < length (b ∷ bytes) → get_or (b ∷ bytes) k byte ≡ byte → ⊥
    go other not zero l e = other e
    go other not (suc k) l e = not (k, omega arith, e)
