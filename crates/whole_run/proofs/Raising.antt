-- Raising the entries of all positions from a cut on, one after another.
use Rattle.std.proofs.Common.{◌≡◌, ℕ, zero, suc, ◌+◌, ◌-◌, ◌≤◌, Bool, true, false, nat_eq, ◌||◌, List, [], ◌∷◌, ◌++◌, All, Option, Some, None, refl, sym, ap, subst, ◌∙◌, arith}
use Rattle.std.specs.Prelude.{option_map}
use Rattle.std.specs.Option.{IsSome, IsSomeAnd}
use Rattle.std.proofs.lemmas.Bool.{false≢true, ne_eqb}
use Rattle.task_ast.specs.meaning.Table.{numbers}
use Rattle.dependence.specs.meaning.Dependents.{is_member}
use Rattle.reorder_list.specs.declared.entry.Entry.{Entry}
use Rattle.reorder_list.specs.Entries.{entry_at, with_change, with_change_at, raised_entry}
use Rattle.reorder_list.proofs.Changes.{changed_where, changed, all-there}
use Rattle.restart.proofs.Undoing.{change-more}
use Rattle.whole_run.specs.inner.Detected.{RaisesFrom}

-- ---- rows of numbers

numbers-push : (a n : ℕ) → numbers a (suc n) ≡ numbers a n ++ (a + n) ∷ []
numbers-push a zero = ap (λ k. k ∷ []) (let same : a ≡ a + 0 = omega arith in same)
numbers-push a (suc n) =
    ap (λ list. a ∷ list)
    (numbers-push (suc a) n ∙ ap (λ k. numbers (suc a) n ++ k ∷ []) (let same : suc a + n ≡ a + suc n = omega arith in same))

-- what is past the end is no member
past-end : (a n q : ℕ) → a + n ≤ q → is_member q (numbers a n) ≡ false
past-end a zero q past = refl
past-end a (suc n) q past = rw (ne_eqb q a (λ same. omega arith)) (past-end (suc a) n q (omega arith))

-- it is the same whether one more stands at the head or at the end
member-turned : (list : List ℕ) (p q : ℕ) → is_member q (p ∷ list) ≡ is_member q (list ++ p ∷ [])
member-turned [] p q = refl
member-turned (x ∷ list) p q = go (nat_eq q p) (nat_eq q x) (member-turned list p q)
  where
    go : (a b : Bool) → (a || is_member q list) ≡ is_member q (list ++ p ∷ [])
        → (a || (b || is_member q list)) ≡ (b || is_member q (list ++ p ∷ []))
    go true true rest = refl
    go true false rest = rest
    go false true rest = refl
    go false false rest = rest

-- ---- entries

unchanged-all : (change : Entry → Entry) (entries : List Entry) → with_change (λ q. false) change entries ≡ entries
unchanged-all change [] = refl
unchanged-all change (e ∷ entries) = ap (λ rest. e ∷ rest) (unchanged-all change entries)

-- the entries of the positions from the cut up to p are raised, and these are listed
pub record RaisedTo (cut front p : ℕ) (before after : List Entry) (redo : List ℕ) : Type 0 where
  pub redone : redo ≡ numbers cut (p - cut)
  pub entries : after ≡ with_change (λ q. is_member q redo) (raised_entry front) before

pub raised-none : (cut front : ℕ) (entries : List Entry) (redo : List ℕ) → redo ≡ [] → RaisedTo cut front cut entries entries redo
raised-none cut front entries redo empty =
    record {
      redone = empty ∙ ap (numbers cut) (let none : 0 ≡ cut - cut = omega arith in none);
      entries =
          sym
          (ap (λ list. with_change (λ q. is_member q list) (raised_entry front) entries) empty
          ∙ unchanged-all (raised_entry front) entries);
    }

-- at the front all are
pub raised-all : (cut front p : ℕ) (before after : List Entry) (redo : List ℕ) → p ≡ front → RaisedTo cut front p before after redo
    → RaisesFrom cut front before after redo
raised-all cut front p before after redo at_end so_far =
    record { redone = so_far.redone ∙ ap (λ n. numbers cut (n - cut)) at_end; entries = so_far.entries }

module _ (cut front p : ℕ) (from : cut ≤ p) (before after : List Entry) (redo : List ℕ)
    (so_far : RaisedTo cut front p before after redo) where
  absent : is_member p redo ≡ false
  absent = ap (is_member p) so_far.redone ∙ past-end cut (p - cut) p (omega arith)

  -- the next entry is as it was
  still : entry_at after p ≡ entry_at before p
  still =
      ap (λ entries. entry_at entries p) so_far.entries
      ∙ (changed (λ q. is_member q redo) (raised_entry front) before p (λ e. refl)
      ∙ (ap (λ b. option_map (changed_where b (raised_entry front)) (entry_at before p)) absent ∙ same (entry_at before p)))
    where
      same : (o : Option Entry) → option_map (changed_where false (raised_entry front)) o ≡ o
      same None = refl
      same (Some e) = refl

  pub may-raise : (P : Entry → Type 0) → All P before → IsSome (entry_at before p) → IsSomeAnd (entry_at after p) P
  may-raise P all there = subst (λ o. IsSomeAnd o P) (sym still) (meets (entry_at before p) refl there)
    where
      meets : (o : Option Entry) → entry_at before p ≡ o → IsSome o → IsSomeAnd o P
      meets None is some = absurd (false≢true some)
      meets (Some e) is some = all-there P before p e all is

  pub raised-more : (later : List Entry) (more : List ℕ) → later ≡ with_change_at p (raised_entry front) after → more ≡ redo ++ p ∷ []
      → RaisedTo cut front (p + 1) before later more
  raised-more later more raised pushed =
      record {
        redone =
            pushed
            ∙ ((λ i. so_far.redone i ++ (let same : p ≡ cut + (p - cut) = omega arith in same) i ∷ [])
            ∙ (sym (numbers-push cut (p - cut)) ∙ ap (numbers cut) (let next : suc (p - cut) ≡ p + 1 - cut = omega arith in next)));
        entries =
            raised
            ∙ (ap (with_change_at p (raised_entry front)) so_far.entries
            ∙ (change-more redo p front before absent
            ∙ ((λ i. with_change (λ q. member-turned redo p q i) (raised_entry front) before)
            ∙ ap (λ list. with_change (λ q. is_member q list) (raised_entry front) before) (sym pushed))));
      }
