-- The lines that entries hold, when some are changed or one is gone.
use Rattle.std.proofs.Common.{◌≡◌, ℕ, ℤ, ◌<◌, Bool, true, false, cond, nat_eq, List, [], ◌∷◌, Option, Some, None, refl, ap, ◌∙◌, arith}
use Rattle.std.specs.Prelude.{option_map, unwrap_or}
use Rattle.std.proofs.lemmas.Bool.{eqb-true, ne_eqb}
use Rattle.task_ast.specs.declared.effect.Effect.{Effect}
use Rattle.dependence.specs.Buffer.{with_at}
use Rattle.reorder_list.specs.declared.entry.Entry.{Entry}
use Rattle.reorder_list.specs.Entries.{StandFrom, entry_at, with_change, with_change_at, applied_entry, raised_entry, lines_of}
use Rattle.reorder_list.proofs.Changes.{changed_where, changed}

abbrev lines_in : Option Entry → List (List ℤ)
lines_in o = unwrap_or (option_map (λ e. e.prints) o) []

-- where a result is applied, its position has its lines
pub lines-taken : (entries : List Entry) (p : ℕ) (e : Entry) (history : Option Effect) (lines : List (List ℤ)) → entry_at entries p ≡ Some e
    → (q : ℕ) → lines_of (with_change_at p (applied_entry history lines) entries) q ≡ with_at (lines_of entries) p lines q
lines-taken entries p e history lines there q =
    ap lines_in (changed (λ r. nat_eq r p) (applied_entry history lines) entries q (λ x. refl)) ∙ go (nat_eq q p) refl
  where
    same : (o : Option Entry) → lines_in (option_map (changed_where false (applied_entry history lines)) o) ≡ lines_in o
    same None = refl
    same (Some x) = refl

    go : (b : Bool) → nat_eq q p ≡ b
        → lines_in (option_map (changed_where b (applied_entry history lines)) (entry_at entries q)) ≡ cond b lines (lines_of entries q)
    go true is = ap (λ o. lines_in (option_map (applied_entry history lines) o)) (ap (entry_at entries) (eqb-true q p is) ∙ there)
    go false is = same (entry_at entries q)

-- what is not raised has its lines as before
pub lines-kept : (part : ℕ → Bool) (front : ℕ) (entries : List Entry) (q : ℕ) → part q ≡ false
    → lines_of (with_change part (raised_entry front) entries) q ≡ lines_of entries q
lines-kept part front entries q out =
    ap lines_in (changed part (raised_entry front) entries q (λ x. refl))
    ∙ (ap (λ b. lines_in (option_map (changed_where b (raised_entry front)) (entry_at entries q))) out ∙ same (entry_at entries q))
  where
    same : (o : Option Entry) → lines_in (option_map (changed_where false (raised_entry front)) o) ≡ lines_in o
    same None = refl
    same (Some x) = refl

-- the oldest entry is gone
pub lines-later : (e : Entry) (entries : List Entry) (at : ℕ) → StandFrom at (e ∷ entries) → (q : ℕ) → at < q
    → lines_of entries q ≡ lines_of (e ∷ entries) q
lines-later e entries at row q later = rw (ne_eqb e.pos q (λ same. let first = row.0 in omega arith)) refl
