-- What stands between two calls stands after a write.
use Rattle.std.proofs.Common.{◌≡◌, ℕ, zero, suc, ◌<◌, Bool, true, false, cond, List, [], ◌∷◌, length, map, Some, is_some, refl, sym, ap, ◌∙◌, subst, arith, nat_eq, unwrap_or}
use Rattle.std.specs.Prelude.{ℤ, All, slice_set}
use Rattle.std.specs.List.Sorted.{IsStrictlyIncreasing}
use Rattle.std.specs.Ordering.{nat_cmp, eq_by_cmp}
use Rattle.std.specs.Cmp.{unsigned_tied}
use Rattle.std.specs.FinMap.Entries.{below_all}
use Rattle.std.specs.FinMap.{find, is_sorted}
use Rattle.std.proofs.lemmas.Bool.{eqb-true, eqb-false, eq-eqb, ne_eqb, and_parts}
use Rattle.task_ast.specs.meaning.Under.{under_lock}
use Rattle.task_ast.proofs.IssuedTables.{length_set}
use Rattle.record_store.specs.declared.given.Bundle.{Bundle}
use Rattle.record_store.specs.Lent.{lock_in, put_beside, put_back}
use Rattle.record_store.proofs.Comings.{above}
use Rattle.subthread.specs.inner.Places.{AreSearchable, AreHandy, AllLack, StandsAt, value_at, with_value}
use Rattle.subthread.specs.inner.Hand.{with_old}
use Rattle.subthread.proofs.Standing.{stands_not, set_back}
use Rattle.subthread.proofs.Written.{others_with, sorted_with}

same_locks : (i k : ℕ) (v : ℤ) (bundles : List Bundle) → map lock_in (with_value i k v bundles) ≡ map lock_in bundles
same_locks i k v [] = refl
same_locks zero k v (b ∷ bundles) = refl
same_locks (suc i) k v (b ∷ bundles) = ap (λ ls. b.lock ∷ ls) (same_locks i k v bundles)

abbrev Sizes : List (List ℕ) → List Bundle → Type 0
Sizes under bundles = All (λ (b : Bundle). length b.cells ≡ length (under_lock under b.lock)) bundles

first_size : (under : List (List ℕ)) (b : Bundle) (bundles : List Bundle) → length b.cells ≡ length (under_lock under b.lock)
    → Sizes under bundles → Sizes under (b ∷ bundles)
first_size under b bundles size sizes zero d less = size
first_size under b bundles size sizes (suc n) d less = sizes n d (omega arith)

same_sizes : (under : List (List ℕ)) (i k : ℕ) (v : ℤ) (bundles : List Bundle) → Sizes under bundles
    → Sizes under (with_value i k v bundles)
same_sizes under i k v [] sizes = sizes
same_sizes under zero k v (b ∷ bundles) sizes =
    first_size under (record { lock = b.lock; cells = slice_set b.cells k v }) bundles (length_set b.cells k v ∙ sizes 0 b (omega arith))
    (λ n d less. sizes (suc n) d (omega arith))
same_sizes under (suc i) k v (b ∷ bundles) sizes =
    first_size under b (with_value i k v bundles) (sizes 0 b (omega arith))
    (same_sizes under i k v bundles (λ n d less. sizes (suc n) d (omega arith)))

pub lack_before : (under : List (List ℕ)) (c i k : ℕ) (v : ℤ) (bundles : List Bundle) → AllLack under c (with_value i k v bundles)
    → AllLack under c bundles
lack_before under c i k v [] lack = lack
lack_before under c zero k v (b ∷ bundles) lack = (lack.0, lack.1)
lack_before under c (suc i) k v (b ∷ bundles) lack = (lack.0, lack_before under c i k v bundles lack.1)

pub searchable_with : (under : List (List ℕ)) (over : List ℕ) (bundles : List Bundle) (i k : ℕ) (v : ℤ) → AreSearchable under over bundles
    → AreSearchable under over (with_value i k v bundles)
searchable_with under over bundles i k v s = record {
  over_is = s.over_is;
  cells_rise = s.cells_rise;
  bundles_rise = subst IsStrictlyIncreasing (sym (same_locks i k v bundles)) s.bundles_rise;
  sizes = same_sizes under i k v bundles s.sizes;
}

pub handy_with : (under : List (List ℕ)) (over : List ℕ) (bundles : List Bundle) (old : List (ℕ × ℤ)) (c i k : ℕ) (v : ℤ)
    → AreHandy under over bundles old → StandsAt under c i k bundles
    → AreHandy under over (with_value i k v bundles) (with_old c (value_at bundles i k) old)
handy_with under over bundles old c i k v handy at = record {
  searchable = searchable_with under over bundles i k v handy.searchable;
  rising = sorted_with c (value_at bundles i k) old handy.rising;
  within = λ n some lack. go n (nat_eq n c) refl some (lack_before under n i k v bundles lack);
}
  where
    go : (n : ℕ) (b : Bool) → nat_eq n c ≡ b → is_some (find nat_cmp n (with_old c (value_at bundles i k) old)) ≡ true
        → AllLack under n bundles → ⊥
    go n true same some lack = stands_not under c i k bundles at (subst (λ m. AllLack under m bundles) (eqb-true n c same) lack)
    go n false differ some lack =
        handy.within n (ap is_some (sym (others_with c (value_at bundles i k) old n (eqb-false n c differ))) ∙ some) lack

-- nothing is put back of none
none_beside : (cells : List ℕ) (values : List ℤ) → put_beside cells values [] ≡ values
none_beside [] values = refl
none_beside (n ∷ cells) [] = refl
none_beside (n ∷ cells) (v ∷ values) = ap (λ vs. v ∷ vs) (none_beside cells values)

pub none_back : (under : List (List ℕ)) (bundles : List Bundle) → put_back under [] bundles ≡ bundles
none_back under [] = refl
none_back under (b ∷ bundles) =
    λ i. record { lock = b.lock; cells = none_beside (under_lock under b.lock) b.cells i } ∷ none_back under bundles i

-- the first old value is put back
pub first_back : (under : List (List ℕ)) (bundles : List Bundle) (w : ℕ × ℤ) (rest : List (ℕ × ℤ)) (i k : ℕ)
    → is_sorted nat_cmp (w ∷ rest) ≡ true → StandsAt under w.0 i k bundles
    → put_back under rest (with_value i k w.1 bundles) ≡ put_back under (w ∷ rest) bundles
first_back under bundles w rest i k rises at =
    set_back under w.0 (w ∷ rest) rest
    others
    w.1 i k bundles at
    (ap (λ o. unwrap_or o w.1) (above w.0 rest w.0
    (and_parts (below_all nat_cmp w.0 rest) (is_sorted nat_cmp rest) rises).0 (eq-eqb w.0 w.0 refl))
    ∙ sym (ap (λ o. unwrap_or o (value_at bundles i k)) here))
  where
    here : find nat_cmp w.0 (w ∷ rest) ≡ Some w.1
    here = rw (unsigned_tied w.0 w.0, eq-eqb w.0 w.0 refl) refl

    others : (n : ℕ) → (n ≡ w.0 → ⊥) → find nat_cmp n rest ≡ find nat_cmp n (w ∷ rest)
    others n apart = sym (ap (λ b. cond b (Some w.1) (find nat_cmp n rest)) (unsigned_tied n w.0 ∙ ne_eqb n w.0 apart))

pub rest_handy : (under : List (List ℕ)) (over : List ℕ) (bundles : List Bundle) (w : ℕ × ℤ) (rest : List (ℕ × ℤ))
    → AreHandy under over bundles (w ∷ rest) → AreHandy under over bundles rest
rest_handy under over bundles w rest handy = record {
  searchable = handy.searchable;
  rising = (and_parts (below_all nat_cmp w.0 rest) (is_sorted nat_cmp rest) handy.rising).1;
  within = λ c some lack. handy.within c (still c (eq_by_cmp nat_cmp c w.0) some) lack;
}
  where
    still : (c : ℕ) (t : Bool) → is_some (find nat_cmp c rest) ≡ true → is_some (cond t (Some w.1) (find nat_cmp c rest)) ≡ true
    still c true some = refl
    still c false some = some

pub searchable_rest : (under : List (List ℕ)) (over : List ℕ) (bundles : List Bundle) (w : ℕ × ℤ) (rest : List (ℕ × ℤ)) (i k : ℕ)
    → AreHandy under over bundles (w ∷ rest)
    → AreHandy under over (with_value i k w.1 bundles) rest
searchable_rest under over bundles w rest i k handy =
    let then = rest_handy under over bundles w rest handy in
    record {
      searchable = searchable_with under over bundles i k w.1 handy.searchable;
      rising = then.rising;
      within = λ c some lack. then.within c some (lack_before under c i k w.1 bundles lack);
    }

pub first_found : (w : ℕ × ℤ) (rest : List (ℕ × ℤ)) → is_some (find nat_cmp w.0 (w ∷ rest)) ≡ true
first_found w rest = ap (λ b. is_some (cond b (Some w.1) (find nat_cmp w.0 rest))) (unsigned_tied w.0 w.0 ∙ eq-eqb w.0 w.0 refl)

pub no_entry : (es : List (ℕ × ℤ)) → (0 < length es → ⊥) → es ≡ []
no_entry [] none = refl
no_entry (e ∷ es) none = absurd (none (omega arith))
