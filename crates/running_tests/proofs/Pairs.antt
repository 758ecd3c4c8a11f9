-- What two cells keep of what is asked of stores.
use Rattle.std.proofs.Common.{◌≡◌, ℕ, zero, suc, ◌<◌, Bool, true, false, List, [], ◌∷◌, length, map, get_or, Some, None, cond, nat_eq, refl, sym, ap, ◌∙◌, subst, arith}
use Rattle.std.specs.Prelude.{ℤ, pos, All, slice_get, unwrap_or, option_map, Option}
use Rattle.std.specs.List.{Contains, IsDistinct}
use Rattle.std.specs.List.Sorted.{IsStrictlyIncreasing}
use Rattle.std.specs.Ordering.{nat_cmp}
use Rattle.std.specs.Cmp.{unsigned_tied}
use Rattle.std.specs.FinMap.{find}
use Rattle.std.proofs.lemmas.List.Elements.{All-nil, All-cons}
use Rattle.task_ast.specs.declared.effect.Effect.{Effect}
use Rattle.task_ast.specs.meaning.State.{State, CellOf, number_at}
use Rattle.task_ast.specs.meaning.Effect.{after}
use Rattle.task_ast.specs.meaning.Under.{under_lock, is_under}
use Rattle.record_store.specs.declared.effect.Effect as left
use Rattle.record_store.specs.declared.given.Bundle.{Bundle}
use Rattle.record_store.specs.Given.{value_in}
use Rattle.record_store.specs.Stored.{Stored, state_of, SameShape, IsAway, IsAtHome, CellsAtHome}
use Rattle.record_store.specs.Lent.{marked, lock_in, whole_effect, MayComeHome, IsSharedOut}
use Rattle.record_store.proofs.Homing.{distinct-rising}
use Rattle.running_tests.specs.Pairs.{each_alone, IsPair}

-- a lock alone is distinct
pub one_distinct : (locks : List ℕ) (lock : ℕ) → locks ≡ lock ∷ [] → IsDistinct nat_eq locks
one_distinct locks lock is =
    subst (IsDistinct nat_eq) (sym is) (distinct-rising (lock ∷ []) (λ k less. absurd (omega arith)))

-- ---- what is shared out

alone_at : (l k c : ℕ) → k < length (under_lock each_alone l) → get_or (under_lock each_alone l) k c ≡ c → (l ≡ c) × (c < 2)
alone_at zero zero c less is = (is, omega (arith, is))
alone_at zero (suc k) c less is = absurd (omega (arith, less))
alone_at (suc zero) zero c less is = (is, omega (arith, is))
alone_at (suc zero) (suc k) c less is = absurd (omega (arith, less))
alone_at (suc (suc l)) k c less is = absurd (omega (arith, less))

alone_contains : (l c : ℕ) → Contains (under_lock each_alone l) c → (l ≡ c) × (c < 2)
alone_contains l c there = alone_at l there.0 c there.1 there.2

alone_rises : (l : ℕ) → IsStrictlyIncreasing (under_lock each_alone l)
alone_rises zero k less = absurd (omega (arith, less))
alone_rises (suc zero) k less = absurd (omega (arith, less))
alone_rises (suc (suc l)) k less = absurd (omega (arith, less))

alone_lock : (c : ℕ) → c < 2 → (l : ℕ) × Contains (under_lock each_alone l) c
alone_lock zero less = (0, (0, omega arith, refl))
alone_lock (suc zero) less = (1, (0, omega arith, refl))
alone_lock (suc (suc c)) less = absurd (omega (arith, less))

pub alone_shared : IsSharedOut 2 each_alone
alone_shared = record {
  one_lock = alone_lock;
  apart = λ l m c left right. (alone_contains l c left).0 ∙ sym (alone_contains m c right).0;
  within = λ l c there. (alone_contains l c there).1;
  rising = alone_rises;
}

-- ---- what comes home

-- the bundle of the lock over a cell, with this value
abbrev pub one_bundle : (cell : ℕ) → ℤ → List Bundle
one_bundle cell value = record { lock = cell; cells = value ∷ [] } ∷ []

-- a cell that comes home with a value has that, and the other has its own
pub written : (t new : Stored) (cell : ℕ) (before value : ℤ) (e : left.Effect) → t.under ≡ each_alone → cell < 2
    → state_of new ≡ after (whole_effect t.under (one_bundle cell value) ((cell, before) ∷ []) e) (state_of t)
    → (c : ℕ) → number_at new.cells c ≡ cond (nat_eq c cell) value (number_at t.cells c)
written t new cell before value e under less state c =
    ap (λ (s : State). number_at (s (CellOf c)) 0) state
    ∙ ap (λ v. now (find nat_cmp c ((cell, v) ∷ []))) (ap (λ u. value_in u (one_bundle cell value) cell) under ∙ there cell less)
    ∙ ap (λ b. now (cond b (Some value) None)) (unsigned_tied c cell)
    ∙ go (nat_eq c cell)
  where
    now : Option ℤ → ℤ
    now o = number_at (unwrap_or (option_map (λ v. v ∷ []) o) (number_at t.cells c ∷ [])) 0

    there : (n : ℕ) → n < 2 → value_in each_alone (one_bundle n value) n ≡ value
    there zero below = refl
    there (suc zero) below = refl
    there (suc (suc n)) below = absurd (omega (arith, below))

    go : (b : Bool) → now (cond b (Some value) None) ≡ cond b value (number_at t.cells c)
    go true = refl
    go false = refl
