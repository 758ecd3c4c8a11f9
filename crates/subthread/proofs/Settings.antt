-- Cells that are written one after another, in rising order.
use Rattle.std.proofs.Common.{◌≡◌, ℕ, ◌+◌, ◌<◌, true, List, [], ◌∷◌, ◌++◌, length, take, drop, get_or, refl, sym, ap, subst, ◌∙◌}
use Rattle.std.specs.Prelude.{ℤ}
use Rattle.std.specs.declared.cmp.Ordering.{Ordering}
use Rattle.std.specs.declared.cmp.Ordering.TheVariants.{Less, Equal, Greater}
use Rattle.std.specs.Ordering.{nat_cmp, is_lt, ordering_reverse}
use Rattle.std.specs.FinMap.{put, is_sorted}
use Rattle.std.specs.FinMap.Entries.{by_order, below_all}
use Rattle.std.proofs.lemmas.Bool.{false≢true, and_parts}
use Rattle.std.proofs.lemmas.Cmp.{nat_cmp_total}
use Rattle.std.proofs.lemmas.List.{append_assoc, take-append-drop, take_more}
use Rattle.record_store.proofs.Homing.{drop_next}

is_less : (o : Ordering) → is_lt o ≡ true → o ≡ Less
is_less Less h = refl
is_less Equal h = absurd (false≢true h)
is_less Greater h = absurd (false≢true h)

past : (a b : ℕ) → is_lt (nat_cmp a b) ≡ true → nat_cmp b a ≡ Greater
past a b h = nat_cmp_total.antisymm b a ∙ ap ordering_reverse (is_less (nat_cmp a b) h)

module _ (w : ℕ × ℤ) (rest : List (ℕ × ℤ)) where
  below_one : (x : ℕ) (es : List (ℕ × ℤ)) → below_all nat_cmp x (es ++ w ∷ rest) ≡ true → is_lt (nat_cmp x w.0) ≡ true
  below_one x [] h = (and_parts (is_lt (nat_cmp x w.0)) (below_all nat_cmp x rest) h).0
  below_one x (e ∷ es) h = below_one x es (and_parts (is_lt (nat_cmp x e.0)) (below_all nat_cmp x (es ++ w ∷ rest)) h).1

  -- a cell above all that were written comes last
  pub put_last : (es : List (ℕ × ℤ)) → is_sorted nat_cmp (es ++ w ∷ rest) ≡ true → put nat_cmp w.0 w.1 es ≡ es ++ w ∷ []
  put_last [] rises = refl
  put_last (e ∷ es) rises =
      let parts = and_parts (below_all nat_cmp e.0 (es ++ w ∷ rest)) (is_sorted nat_cmp (es ++ w ∷ rest)) rises in
      ap (λ o. by_order o (w ∷ e ∷ es) ((e.0, w.1) ∷ es) (e ∷ put nat_cmp w.0 w.1 es)) (past e.0 w.0 (below_one e.0 es parts.0))
      ∙ ap (λ l. e ∷ l) (put_last es parts.1)

-- one more of the cells that come after others
pub put_next : (before ws : List (ℕ × ℤ)) (k : ℕ) (d : ℕ × ℤ) → is_sorted nat_cmp (before ++ ws) ≡ true → k < length ws
    → put nat_cmp (get_or ws k d).0 (get_or ws k d).1 (before ++ take k ws) ≡ before ++ take (k + 1) ws
put_next before ws k d rises less =
    put_last (get_or ws k d) (drop (k + 1) ws) (before ++ take k ws) (subst (λ l. is_sorted nat_cmp l ≡ true) parts rises)
    ∙ append_assoc before (take k ws) (get_or ws k d ∷ [])
    ∙ ap (λ l. before ++ l) (sym (take_more ws k d less))
  where
    parts : before ++ ws ≡ (before ++ take k ws) ++ get_or ws k d ∷ drop (k + 1) ws
    parts =
        ap (λ l. before ++ l) (sym (take-append-drop k ws) ∙ ap (λ l. take k ws ++ l) (drop_next ws k d less))
        ∙ sym (append_assoc before (take k ws) (get_or ws k d ∷ drop (k + 1) ws))
