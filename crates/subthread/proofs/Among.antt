-- Cells with old values lie in the bundles.
use Rattle.std.proofs.Common.{◌≡◌, ℕ, zero, suc, Bool, true, false, ◌||◌, List, [], ◌∷◌, map, get_or, Option, Some, None, is_some, nat_eq, refl, sym, ap, ◌∙◌}
use Rattle.std.specs.Prelude.{ℤ, All, slice_get}
use Rattle.std.specs.List.{list_any}
use Rattle.std.proofs.lemmas.Bool.{false≢true, eq-eqb, eqb-true}
use Rattle.task_ast.specs.meaning.Under.{under_lock, is_under}
use Rattle.record_store.specs.declared.given.Bundle.{Bundle}
use Rattle.record_store.specs.Lent.{lock_in, put_back}
use Rattle.subthread.specs.inner.Places.{AreHandy, AllLack, IsFoundAt}
use Rattle.subthread.proofs.Standing.{stands_not}
use Rattle.subthread.proofs.Struck.{found_at}

pub same_locks_back : (under : List (List ℕ)) (old : List (ℕ × ℤ)) (bundles : List Bundle)
    → map lock_in (put_back under old bundles) ≡ map lock_in bundles
same_locks_back under old [] = refl
same_locks_back under old (b ∷ bundles) = ap (λ ls. b.lock ∷ ls) (same_locks_back under old bundles)

-- a cell that stands somewhere is found
found_there : (c : ℕ) (cells : List ℕ) (j : ℕ) → slice_get cells j ≡ Some c → list_any (nat_eq c) cells ≡ true
found_there c [] j there = absurd (cc there)
found_there c (n ∷ cells) zero there = let same : n ≡ c = cc there in ap (λ b. b || list_any (nat_eq c) cells) (eq-eqb c n (sym same))
found_there c (n ∷ cells) (suc j) there = go (nat_eq c n) (found_there c cells j there)
  where
    go : (b : Bool) → list_any (nat_eq c) cells ≡ true → (b || list_any (nat_eq c) cells) ≡ true
    go true rest = refl
    go false rest = rest

-- and a cell that is found stands somewhere
any_at : (c : ℕ) (cells : List ℕ) → list_any (nat_eq c) cells ≡ true → ((j : ℕ) → slice_get cells j ≡ Some c → ⊥) → ⊥
any_at c [] is none = false≢true is
any_at c (n ∷ cells) is none = go (nat_eq c n) refl is (λ rest. any_at c cells rest (λ j there. none (suc j) there))
  where
    go : (b : Bool) → nat_eq c n ≡ b → (b || list_any (nat_eq c) cells) ≡ true → (list_any (nat_eq c) cells ≡ true → ⊥) → ⊥
    go true same is later = none 0 (ap Some (sym (eqb-true c n same)))
    go false differ is later = later is

-- a cell that stands under none of their locks is in no bundle
not_under : (under : List (List ℕ)) (c : ℕ) (bundles : List Bundle) → is_under under (map lock_in bundles) c ≡ false
    → AllLack under c bundles
not_under under c [] none = tt
not_under under c (b ∷ bundles) none = go (list_any (nat_eq c) (under_lock under b.lock)) refl none (not_under under c bundles)
  where
    go : (m : Bool) → list_any (nat_eq c) (under_lock under b.lock) ≡ m → (m || is_under under (map lock_in bundles) c) ≡ false
        → (is_under under (map lock_in bundles) c ≡ false → AllLack under c bundles) → AllLack under c (b ∷ bundles)
    go true is lacking rest = absurd (false≢true (sym lacking))
    go false is lacking rest = ((λ j there. false≢true (sym is ∙ found_there c (under_lock under b.lock) j there)), rest lacking)

pub all_among : (under : List (List ℕ)) (over : List ℕ) (bundles : List Bundle) (olds : List (ℕ × ℤ)) → AreHandy under over bundles olds
    → All (λ w. is_under under (map lock_in (put_back under olds bundles)) w.0 ≡ true) olds
all_among under over bundles olds handy k d less =
    ap (λ locks. is_under under locks (get_or olds k d).0) (same_locks_back under olds bundles)
    ∙ go (is_under under (map lock_in bundles) (get_or olds k d).0) refl
  where
    go : (b : Bool) → is_under under (map lock_in bundles) (get_or olds k d).0 ≡ b → b ≡ true
    go true is = refl
    go false is =
        absurd (handy.within (get_or olds k d).0 (found_at olds k d handy.rising less) (not_under under (get_or olds k d).0 bundles is))

-- so a cell under one of the locks is in a bundle
pub under_there : (under : List (List ℕ)) (c : ℕ) (bundles : List Bundle) → is_under under (map lock_in bundles) c ≡ true
    → AllLack under c bundles → ⊥
under_there under c [] is lack = false≢true is
under_there under c (b ∷ bundles) is lack =
    go (list_any (nat_eq c) (under_lock under b.lock)) refl is (λ rest. under_there under c bundles rest lack.1)
  where
    go : (m : Bool) → list_any (nat_eq c) (under_lock under b.lock) ≡ m → (m || is_under under (map lock_in bundles) c) ≡ true
        → (is_under under (map lock_in bundles) c ≡ true → ⊥) → ⊥
    go true here is rest = any_at c (under_lock under b.lock) here lack.0
    go false here is rest = rest is

-- and so in what is left when old values stand back
pub under_now : (under : List (List ℕ)) (old : List (ℕ × ℤ)) (c : ℕ) (bundles : List Bundle)
    → is_under under (map lock_in (put_back under old bundles)) c ≡ true → AllLack under c bundles → ⊥
under_now under old c bundles is =
    under_there under c bundles (ap (λ locks. is_under under locks c) (sym (same_locks_back under old bundles)) ∙ is)

-- a cell that is found among what is left stands under one of the locks
pub found_under : (under : List (List ℕ)) (old : List (ℕ × ℤ)) (c : ℕ) (bundles : List Bundle) (o : Option (ℕ × ℕ))
    → IsFoundAt under bundles c o → is_some o ≡ true → is_under under (map lock_in (put_back under old bundles)) c ≡ true
found_under under old c bundles None found some = absurd (false≢true some)
found_under under old c bundles (Some at) found some =
    ap (λ locks. is_under under locks c) (same_locks_back under old bundles) ∙ go (is_under under (map lock_in bundles) c) refl
  where
    go : (b : Bool) → is_under under (map lock_in bundles) c ≡ b → b ≡ true
    go true is = refl
    go false is = absurd (stands_not under c at.0 at.1 bundles found (not_under under c bundles is))
