-- Bundles that are lent and come home.
use Rattle.std.proofs.Common.{◌≡◌, ℕ, ℤ, true, false, List, map, get_or, Contains, sym, ap, ◌∙◌, subst, arith}
use Rattle.std.specs.Prelude.{All}
use Rattle.std.specs.Ordering.{nat_cmp}
use Rattle.std.specs.FinMap.{is_sorted}
use Rattle.std.proofs.lemmas.List.{length-map, get_or-map}
use Rattle.std.proofs.lemmas.List.Elements.{All-contains}
use Rattle.std.proofs.lemmas.Option.{slice_get_within}
use Rattle.task_ast.specs.meaning.State.{State}
use Rattle.task_ast.specs.meaning.Under.{is_under}
use Rattle.record_store.specs.declared.given.Bundle.{Bundle}
use Rattle.record_store.specs.Given.{bundle_of}
use Rattle.record_store.specs.Lent.{marked, lock_in, put_back, AreAsLent, MayComeHome}
use Rattle.record_store.specs.Stored.{Stored, state_of, IsAtHome, IsAway}
use Rattle.record_store.proofs.Comings.{locks_lent}
use Rattle.record_store.proofs.Marks.{marked-in, marked-back}
use Rattle.subthread.proofs.Among.{same_locks_back}
use Rattle.subthread.proofs.HeldLocks.{bundle_locks}

-- what all locks of bundles meet
pub all-locks : (P : ℕ → Type 0) (bundles : List Bundle) → ((l : ℕ) → Contains (map lock_in bundles) l → P l)
    → All (λ b. P (lock_in b)) bundles
all-locks P bundles each k d less =
    each (lock_in (get_or bundles k d))
    (k, (let same = length-map bundles lock_in in omega arith), get_or-map lock_in bundles k d (lock_in (get_or bundles k d)) less)

-- what a state has under locks is as it is lent
pub as-lent : (under : List (List ℕ)) (state : State) (held : List ℕ)
    → map (bundle_of under state) held ≡ map (λ (b : Bundle). bundle_of under state b.lock) (map (bundle_of under state) held)
as-lent under state held =
    sym (locks_lent under state (map (bundle_of under state) held) ∙ ap (map (bundle_of under state)) (bundle_locks under state held))

-- locks that were at home and were lent
module _ (store : Stored) (held : List ℕ) (home : All (IsAtHome store) held) where
  abbrev pub lender : Stored
  lender = record store { away = marked held true store.away }

  -- bundles of these locks are away
  pub lent-away : (bundles : List Bundle) → map lock_in bundles ≡ held → All (λ b. IsAway lender (lock_in b)) bundles
  lent-away bundles same =
      all-locks (IsAway lender) bundles
      (λ l among. let there = subst (λ locks. Contains locks l) same among in
      marked-in held true store.away l (slice_get_within store.away l false (All-contains (IsAtHome store) held l home there)) there)

  -- as they were lent they are as the store has them
  pub lent-as : (bundles : List Bundle) → bundles ≡ map (bundle_of store.under (state_of store)) held → AreAsLent lender bundles
  lent-as bundles same = subst (AreAsLent lender) (sym same) (as-lent store.under (state_of store) held)

  -- once they are home again each lock is as it was
  pub home-again : (bundles : List Bundle) → map lock_in bundles ≡ held → marked (map lock_in bundles) false lender.away ≡ store.away
  home-again bundles same = ap (λ locks. marked locks false (marked held true store.away)) same ∙ marked-back held store.away home

  -- and the store is as it was
  pub sent-back : (bundles : List Bundle) → map lock_in bundles ≡ held
      → record lender { away = marked (map lock_in bundles) false lender.away } ≡ store
  sent-back bundles same = λ i. record store { away = home-again bundles same i }

  -- bundles that come back with old values have the locks that were lent
  pub came-locks : (bundles : List Bundle) (old : List (ℕ × ℤ))
      → put_back store.under old bundles ≡ map (bundle_of store.under (state_of store)) held
      → map lock_in bundles ≡ held
  came-locks bundles old came =
      sym (same_locks_back store.under old bundles) ∙ (ap (map lock_in) came ∙ bundle_locks store.under (state_of store) held)

  -- what was lent may come home, where some of its cells were written and their old values were kept
  pub may-come : (bundles : List Bundle) (old : List (ℕ × ℤ))
      → put_back store.under old bundles ≡ map (bundle_of store.under (state_of store)) held
      → is_sorted nat_cmp old ≡ true → All (λ w. is_under store.under held w.0 ≡ true) old → MayComeHome lender bundles old
  may-come bundles old came rises within =
      record {
        away = lent-away bundles (came-locks bundles old came);
        as_lent = lent-as (put_back store.under old bundles) came;
        rising = rises;
        within = subst (λ locks. All (λ w. is_under store.under locks w.0 ≡ true) old) (sym (came-locks bundles old came)) within;
      }
