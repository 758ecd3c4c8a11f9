-- Cells that are written in place, in the words of an effect.
use Rattle.std.proofs.Common.{◌≡◌, ℕ, Bool, true, false, cond, List, map, Option, Some, None, is_some, refl, sym, ap, ◌∙◌, nat_eq, unwrap_or, option_map, T}
use Rattle.std.specs.Prelude.{ℤ, pos}
use Rattle.std.specs.Ordering.{nat_cmp}
use Rattle.std.specs.Cmp.{unsigned_tied}
use Rattle.std.specs.FinMap.{put, find, is_sorted}
use Rattle.std.specs.FinMap.Entries.{find-put, is_sorted-put, same_entries}
use Rattle.std.proofs.lemmas.Bool.{eqb-true, eqb-false, eq-eqb, ne_eqb, false≢true}
use Rattle.std.proofs.lemmas.Cmp.{nat_cmp_total, ranked}
use Rattle.record_store.specs.declared.given.Bundle.{Bundle}
use Rattle.record_store.specs.Given.{value_in, value_over}
use Rattle.record_store.specs.Lent.{put_back, new_write}
use Rattle.record_store.proofs.Comings.{found_write, over_back, in_over}
use Rattle.record_store.proofs.Fitting.{rising_same}
use Rattle.subthread.specs.inner.Places.{StandsAt, value_at, with_value}
use Rattle.subthread.specs.inner.Hand.{with_old}
use Rattle.subthread.proofs.Standing.{value_set, set_back}

is_t : (b : Bool) → b ≡ true → T b
is_t true e = tt
is_t false e = absurd (false≢true e)

of_t : (b : Bool) → T b → b ≡ true
of_t true h = refl
of_t false h = absurd h

found_put : (q c : ℕ) (v : ℤ) (old : List (ℕ × ℤ)) → find nat_cmp q (put nat_cmp c v old) ≡ cond (nat_eq q c) (Some v) (find nat_cmp q old)
found_put q c v old = find-put nat_cmp nat_cmp_total q c v old ∙ ap (λ b. cond b (Some v) (find nat_cmp q old)) (unsigned_tied q c)

-- the value of a cell now is the one written, or the one that came
pub now_is : (under : List (List ℕ)) (bundles : List Bundle) (old : List (ℕ × ℤ)) (c : ℕ)
    → unwrap_or (find nat_cmp c (map (new_write under bundles) old)) (value_in under (put_back under old bundles) c)
    ≡ value_in under bundles c
now_is under bundles old c =
    ap (λ o. unwrap_or o (value_in under (put_back under old bundles) c)) (found_write under bundles old c) ∙ go (find nat_cmp c old) refl
  where
    go : (o : Option ℤ) → find nat_cmp c old ≡ o
        → unwrap_or (option_map (λ _. value_in under bundles c) o) (value_in under (put_back under old bundles) c)
        ≡ value_in under bundles c
    go (Some v) some = refl
    go None none =
        sym (in_over under (put_back under old bundles) c)
        ∙ ap (λ o. value_over under (put_back under old bundles) c (unwrap_or o (pos 0))) (sym none)
        ∙ over_back under old bundles c (pos 0)
        ∙ ap (λ o. unwrap_or o (value_over under bundles c (pos 0))) none
        ∙ in_over under bundles c

-- ---- one old value more

module _ (c : ℕ) (v : ℤ) (old : List (ℕ × ℤ)) where
  pub others_with : (n : ℕ) → (n ≡ c → ⊥) → find nat_cmp n (with_old c v old) ≡ find nat_cmp n old
  others_with n apart = go (is_some (find nat_cmp c old))
    where
      go : (b : Bool) → find nat_cmp n (cond b old (put nat_cmp c v old)) ≡ find nat_cmp n old
      go true = refl
      go false = found_put n c v old ∙ ap (λ b. cond b (Some v) (find nat_cmp n old)) (ne_eqb n c apart)

  pub here_with : find nat_cmp c (with_old c v old) ≡ Some (unwrap_or (find nat_cmp c old) v)
  here_with = go (find nat_cmp c old) refl
    where
      go : (o : Option ℤ) → find nat_cmp c old ≡ o → find nat_cmp c (cond (is_some o) old (put nat_cmp c v old)) ≡ Some (unwrap_or o v)
      go (Some w) is = is
      go None is = found_put c c v old ∙ ap (λ b. cond b (Some v) (find nat_cmp c old)) (eq-eqb c c refl)

  pub sorted_with : is_sorted nat_cmp old ≡ true → is_sorted nat_cmp (with_old c v old) ≡ true
  sorted_with rises = go (is_some (find nat_cmp c old))
    where
      go : (b : Bool) → is_sorted nat_cmp (cond b old (put nat_cmp c v old)) ≡ true
      go true = rises
      go false = of_t _ (is_sorted-put nat_cmp nat_cmp_total c v old (is_t _ rises))

module _ (under : List (List ℕ)) (bundles : List Bundle) (old : List (ℕ × ℤ)) (c i k : ℕ) (v : ℤ) (at : StandsAt under c i k bundles) where
  abbrev later : List (ℕ × ℤ)
  later = with_old c (value_at bundles i k) old

  abbrev changed : List Bundle
  changed = with_value i k v bundles

  pub came_same : put_back under later changed ≡ put_back under old bundles
  came_same =
      set_back under c old later (others_with c (value_at bundles i k) old) v i k bundles at
      (ap (λ o. unwrap_or o v) (here_with c (value_at bundles i k) old))

  pub written_then : is_sorted nat_cmp old ≡ true
      → map (new_write under changed) later ≡ put nat_cmp c v (map (new_write under bundles) old)
  written_then rises =
      same_entries nat_cmp nat_cmp_total (λ x y e. ranked x y _ (sym e)) (map (new_write under changed) later)
      (put nat_cmp c v (map (new_write under bundles) old))
      (is_t _ (rising_same (λ w. value_in under changed w.0) later ∙ sorted_with c (value_at bundles i k) old rises))
      (is_sorted-put nat_cmp nat_cmp_total c v (map (new_write under bundles) old)
      (is_t _ (rising_same (λ w. value_in under bundles w.0) old ∙ rises)))
      finds
    where
      finds : (q : ℕ) → find nat_cmp q (map (new_write under changed) later)
          ≡ find nat_cmp q (put nat_cmp c v (map (new_write under bundles) old))
      finds q = found_write under changed later q ∙ go (nat_eq q c) refl ∙ sym (found_put q c v (map (new_write under bundles) old))
        where
          go : (b : Bool) → nat_eq q c ≡ b
              → option_map (λ _. value_in under changed q) (find nat_cmp q later)
              ≡ cond b (Some v) (find nat_cmp q (map (new_write under bundles) old))
          go true same =
              let is = eqb-true q c same in
              ap (λ n. option_map (λ _. value_in under changed q) (find nat_cmp n later)) is
              ∙ ap (option_map (λ _. value_in under changed q)) (here_with c (value_at bundles i k) old)
              ∙ ap Some (value_set under c i k v bundles q at ∙ ap (λ b. cond b v (value_in under bundles q)) same)
          go false differ =
              (λ j. option_map (λ _. (value_set under c i k v bundles q at ∙ ap (λ b. cond b v (value_in under bundles q)) differ) j)
              (others_with c (value_at bundles i k) old q (eqb-false q c differ) j))
              ∙ sym (found_write under bundles old q)
