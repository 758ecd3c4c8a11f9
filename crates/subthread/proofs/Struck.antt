-- A mask that falls on cells in place.
use Rattle.std.proofs.Common.{◌≡◌, ℕ, suc, ◌<◌, Bool, true, false, cond, List, [], ◌∷◌, length, map, get_or, Some, None, is_some, refl, sym, ap, ◌∙◌, arith, nat_eq, unwrap_or}
use Rattle.std.specs.Prelude.{ℤ}
use Rattle.std.specs.Int.{int_bit_xor, w64}
use Rattle.std.specs.Ordering.{nat_cmp}
use Rattle.std.specs.Cmp.{unsigned_tied}
use Rattle.std.specs.FinMap.{find, is_sorted}
use Rattle.std.specs.FinMap.Entries.{below_all}
use Rattle.std.proofs.lemmas.Bool.{eqb-true, and_parts}
use Rattle.record_store.specs.declared.given.Bundle.{Bundle}
use Rattle.record_store.specs.Given.{value_in}
use Rattle.record_store.specs.Lent.{put_back, new_write}
use Rattle.record_store.proofs.Comings.{above, each_found}
use Rattle.subthread.specs.inner.Places.{AreHandy, StandsAt, value_at, with_value}
use Rattle.task_ast.specs.meaning.Value.{is_zero}
use Rattle.subthread.specs.inner.Hand.{turned_write, damaged_write}
use Rattle.subthread.proofs.Standing.{stands_value, value_set, set_back}
use Rattle.subthread.proofs.Handy.{searchable_with, lack_before}

abbrev pub turned : ℤ → ℤ → ℤ
turned mask v = int_bit_xor w64 v mask

-- the value of a cell once the mask has fallen on these cells too
abbrev pub then : (under : List (List ℕ)) → (mask : ℤ) → List (ℕ × ℤ) → List Bundle → ℕ → ℤ
then under mask rest bundles d = cond (is_some (find nat_cmp d rest)) (turned mask (value_in under bundles d)) (value_in under bundles d)

module _ (under : List (List ℕ)) (mask : ℤ) (bundles : List Bundle) (w : ℕ × ℤ) (rest : List (ℕ × ℤ)) (i k : ℕ)
    (at : StandsAt under w.0 i k bundles) (rises : is_sorted nat_cmp (w ∷ rest) ≡ true) where
  abbrev struck : List Bundle
  struck = with_value i k (turned mask (value_at bundles i k)) bundles

  pub then_next : (d : ℕ) → then under mask rest struck d ≡ then under mask (w ∷ rest) bundles d
  then_next d =
      (λ j. cond (is_some (find nat_cmp d rest)) (turned mask (value_set under w.0 i k (turned mask (value_at bundles i k)) bundles d at j))
      (value_set under w.0 i k (turned mask (value_at bundles i k)) bundles d at j))
      ∙ go (nat_eq d w.0) refl
      ∙ ap (λ t. cond (is_some (cond t (Some w.1) (find nat_cmp d rest))) (turned mask (value_in under bundles d))
      (value_in under bundles d)) (sym (unsigned_tied d w.0))
    where
      none : nat_eq d w.0 ≡ true → find nat_cmp d rest ≡ None
      none same = above w.0 rest d (and_parts (below_all nat_cmp w.0 rest) (is_sorted nat_cmp rest) rises).0 same

      go : (b : Bool) → nat_eq d w.0 ≡ b
          → cond (is_some (find nat_cmp d rest)) (turned mask (cond b (turned mask (value_at bundles i k)) (value_in under bundles d)))
          (cond b (turned mask (value_at bundles i k)) (value_in under bundles d))
          ≡ cond (is_some (cond b (Some w.1) (find nat_cmp d rest))) (turned mask (value_in under bundles d)) (value_in under bundles d)
      go true same =
          ap (λ o. cond (is_some o) (turned mask (turned mask (value_at bundles i k))) (turned mask (value_at bundles i k))) (none same)
          ∙ ap (turned mask) (sym (stands_value under w.0 i k bundles at) ∙ ap (value_in under bundles) (sym (eqb-true d w.0 same)))
      go false differ = refl

pub handy_struck : (under : List (List ℕ)) (over : List ℕ) (bundles : List Bundle) (olds : List (ℕ × ℤ)) (i k : ℕ) (v : ℤ)
    → AreHandy under over bundles olds → AreHandy under over (with_value i k v bundles) olds
handy_struck under over bundles olds i k v handy = record {
  searchable = searchable_with under over bundles i k v handy.searchable;
  rising = handy.rising;
  within = λ c some lack. handy.within c some (lack_before under c i k v bundles lack);
}

pub came_struck : (under : List (List ℕ)) (bundles : List Bundle) (olds : List (ℕ × ℤ)) (c o i k : ℕ) (d : ℕ × ℤ) (v : ℤ)
    → StandsAt under c i k bundles → is_sorted nat_cmp olds ≡ true → o < length olds → c ≡ (get_or olds o d).0
    → put_back under olds (with_value i k v bundles) ≡ put_back under olds bundles
came_struck under bundles olds c o i k d v at rises less is =
    set_back under c olds olds (λ n apart. refl) v i k bundles at
    (ap (λ x. unwrap_or x v) there ∙ sym (ap (λ x. unwrap_or x (value_at bundles i k)) there))
  where
    there : find nat_cmp c olds ≡ Some (get_or olds o d).1
    there = ap (λ n. find nat_cmp n olds) is ∙ each_found olds o d rises less

pub found_at : (olds : List (ℕ × ℤ)) (o : ℕ) (d : ℕ × ℤ) → is_sorted nat_cmp olds ≡ true → o < length olds
    → is_some (find nat_cmp (get_or olds o d).0 olds) ≡ true
found_at olds o d rises less = ap is_some (each_found olds o d rises less)

-- all are struck
pub all_struck : (under : List (List ℕ)) (mask : ℤ) (before after : List Bundle) (olds : List (ℕ × ℤ)) → is_sorted nat_cmp olds ≡ true
    → ((d : ℕ) → value_in under after d ≡ then under mask olds before d)
    → map (new_write under after) olds ≡ map (turned_write mask) (map (new_write under before) olds)
all_struck under mask before after olds rises values = go olds (λ k d less. each_found olds k d rises less)
  where
    go : (ws : List (ℕ × ℤ)) → ((k : ℕ) (d : ℕ × ℤ) → k < length ws → find nat_cmp (get_or ws k d).0 olds ≡ Some (get_or ws k d).1)
        → map (new_write under after) ws ≡ map (turned_write mask) (map (new_write under before) ws)
    go [] found = refl
    go (w ∷ ws) found = λ i. (
      w.0,
      (values w.0 ∙ ap (λ o. cond (is_some o) (turned mask (value_in under before w.0)) (value_in under before w.0))
          (found 0 w (omega arith))) i,
    )
        ∷ go ws (λ k d less. found (suc k) d (omega arith)) i

-- mask 0 changes nothing, and another turns the bits round
pub spared : (mask : ℤ) → is_zero mask ≡ true → (ws : List (ℕ × ℤ)) → ws ≡ map (damaged_write mask) ws
spared mask zero_is [] = refl
spared mask zero_is (w ∷ ws) = λ i. (w.0, ap (λ b. cond b w.1 (turned mask w.1)) (sym zero_is) i) ∷ spared mask zero_is ws i

pub masked_all : (mask : ℤ) → is_zero mask ≡ false → (ws : List (ℕ × ℤ)) → map (turned_write mask) ws ≡ map (damaged_write mask) ws
masked_all mask some [] = refl
masked_all mask some (w ∷ ws) = λ i. (w.0, ap (λ b. cond b w.1 (turned mask w.1)) (sym some) i) ∷ masked_all mask some ws i
