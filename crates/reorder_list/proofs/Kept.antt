-- What is kept of the entries.
use Rattle.std.proofs.Common.{◌≡◌, ℕ, zero, suc, ◌<◌, ◌++◌, List, [], ◌∷◌, length, Option, Some, get_or, slice_get, slice_set, subst, sym, ap, ◌∙◌, refl}
use Rattle.std.proofs.lemmas.List.Elements.{All-set, All-push, All-tail}
use Rattle.reorder_list.specs.declared.entry.Entry.{Entry}
use Rattle.std.specs.Option.{IsSomeAnd}
use Rattle.reorder_list.specs.declared.entry.State.TheVariants.{Waiting}
use Rattle.reorder_list.specs.Entries.{StandFrom, first_position, ComesNext, is_applied, entry_at, with_change_at, out_entry}
use Rattle.reorder_list.specs.Places.{IsPlaceOf, IsKept, IsHistoryOfApplied}
use Rattle.reorder_list.proofs.Rows.{stands-set, row-push, row-rest, read-at, at-place, set-place}

first-set : (k : ℕ) (entries : List Entry) (e y : Entry) → slice_get entries k ≡ Some e → y.pos ≡ e.pos
    → first_position (slice_set entries k y) ≡ first_position entries
first-set k [] e y there same = refl
first-set zero (x ∷ entries) e y there same = same ∙ ap (λ (z : Entry). z.pos) (let is : e ≡ x = cc there in is)
first-set (suc k) (x ∷ entries) e y there same = refl

-- an entry takes the place of another of its position
pub kept-set : (entries : List Entry) (k : ℕ) (e y : Entry) → IsKept entries → k < length entries → e ≡ get_or entries k e → y.pos ≡ e.pos
    → IsHistoryOfApplied y → IsKept (slice_set entries k y)
kept-set entries k e y kept l is same has =
    let there = read-at entries k e l is in
    record {
      row =
          subst (λ b. StandFrom b (slice_set entries k y)) (sym (first-set k entries e y there same))
          (stands-set (first_position entries) k entries e y kept.row there same);
      histories = All-set IsHistoryOfApplied entries k y has kept.histories;
    }

pub kept-push : (entries : List Entry) (e : Entry) → IsKept entries → ComesNext entries e.pos → IsHistoryOfApplied e
    → IsKept (entries ++ e ∷ [])
kept-push entries e kept next has =
    record { row = row-push entries e kept.row next; histories = All-push IsHistoryOfApplied entries e kept.histories has }

pub kept-rest : (e : Entry) (entries : List Entry) → IsKept (e ∷ entries) → IsKept entries
kept-rest e entries kept = record { row = row-rest e entries kept.row; histories = All-tail IsHistoryOfApplied e entries kept.histories }

module _ (entries : List Entry) (kept : IsKept entries) (p k : ℕ) (place : IsPlaceOf entries p k) (e : Entry)
    (read : e ≡ get_or entries k e) where
  -- the entry of the position is the one that was read at its place
  pub entry-is : entry_at entries p ≡ Some e
  entry-is = at-place entries kept.row p k place ∙ read-at entries k e place.within read

  pub history-of-applied : IsHistoryOfApplied e
  history-of-applied = subst IsHistoryOfApplied (sym read) (kept.histories k e place.within)

  -- what holds of the entry of the position
  pub holds-here : (P : Entry → Type 0) → IsSomeAnd (entry_at entries p) P → P e
  holds-here P holds = let Q : Option Entry → Type 0 = λ o. IsSomeAnd o P in subst Q entry-is holds

  pub changed-entries : (change : Entry → Entry) (y : Entry) → y ≡ change e → slice_set entries k y ≡ with_change_at p change entries
  changed-entries change y is = ap (slice_set entries k) is ∙ set-place entries kept.row p k place change e read

  pub changed-kept : (change : Entry → Entry) (y : Entry) → y ≡ change e → (change e).pos ≡ e.pos → IsHistoryOfApplied (change e)
      → IsKept (slice_set entries k y)
  changed-kept change y is same has =
      subst (λ z. IsKept (slice_set entries k z)) (sym is) (kept-set entries k e (change e) kept place.within read same has)

  pub out-kept : (x y : Entry) → y ≡ out_entry e → entry_at entries p ≡ Some x → x.state ≡ Waiting → IsKept (slice_set entries k y)
  out-kept x y is there waits =
      let both : Some x ≡ Some e = sym there ∙ entry-is in
      let same : x ≡ e = cc both in
      changed-kept out_entry y is refl (λ some. sym (ap is_applied (ap (λ (z : Entry). z.state) (sym same) ∙ waits))
      ∙ history-of-applied some)
