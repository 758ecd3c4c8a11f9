-- Lists of checkpoints that are given up at an end, and how many positions are applied before the first that is not.
use Rattle.std.proofs.Common.{◌≡◌, ℕ, ◌+◌, ◌<◌, ◌≤◌, true, List, [], ◌∷◌, ◌++◌, length, map, get_or, All, Option, Some, None, inl, inr, sym, ap, ◌∙◌, subst, arith, append_assoc, length-append}
use Rattle.std.specs.Prelude.{IfSome}
use Rattle.std.specs.Option.{option_to_list}
use Rattle.std.specs.List.Sorted.{IsStrictlyIncreasing}
use Rattle.std.proofs.lemmas.Bool.{cases_lt}
use Rattle.std.proofs.lemmas.List.{get_or-map, length-map, get_or_append_left}
use Rattle.std.proofs.lemmas.List.Elements.{All-nil, All-cons, All-append, at_read}
use Rattle.record_store.specs.Stored.{Stored, with_thread}
use Rattle.record_store.proofs.States.{slot_law}
use Rattle.reorder_list.specs.declared.entry.Entry.{Entry}
use Rattle.reorder_list.specs.Entries.{entry_at, is_applied}
use Rattle.reorder_list.proofs.Changes.{position-of, all-there}
use Rattle.subthread.proofs.Searched.{far}
use Rattle.whole_run.specs.declared.parts.backing.Checkpoint.{Checkpoint}
use Rattle.whole_run.specs.inner.Backed.{AreLive}
use Rattle.whole_run.specs.inner.Backing.{SlotsOnly}

-- an entry whose number is not the last of 32 bits has one after it
pub few-there : (entries : List Entry) (p : ℕ) (e : Entry) → All (λ (x : Entry). x.pos < 4294967295) entries → entry_at entries p ≡ Some e
    → p < 4294967295
few-there entries p e few there =
    subst (λ n. n < 4294967295) (position-of entries p e there)
    (all-there (λ (x : Entry). x.pos < 4294967295) entries p e few there)

-- one more entry that is applied was passed
pub passed-more : (entries : List Entry) (low whole : ℕ) (e : Entry)
    → ((q : ℕ) → low ≤ q → q < whole → (x : Entry) × (entry_at entries q ≡ Some x) × (is_applied x.state ≡ true))
    → entry_at entries whole ≡ Some e → is_applied e.state ≡ true
    → (q : ℕ) → low ≤ q → q < whole + 1 → (x : Entry) × (entry_at entries q ≡ Some x) × (is_applied x.state ≡ true)
passed-more entries low whole e passed there applied q above below =
    elim (cases_lt q whole) [
      | inl before ↦ passed q above before
      | inr here ↦ (e, ap (entry_at entries) (let same : q ≡ whole = omega arith in same) ∙ there, applied)
    ]

-- a slot more for registers
pub slots-more : (before store later : Stored) → SlotsOnly before store → later ≡ with_thread 0 store → SlotsOnly before later
slots-more before store later slots grown =
    subst (SlotsOnly before) (sym grown)
    (record {
      state = slot_law store ∙ slots.state;
      threads = (let kept = slots.threads in omega (arith, length-append store.threads ([] ∷ [])));
      cells = slots.cells;
      under = slots.under;
      away = slots.away;
    })

-- none lies before a position where the first does not, and where there is none
pub live-from : (items : List Checkpoint) (first : Checkpoint) (p : ℕ) → 0 < length items → first ≡ get_or items 0 first → p ≤ first.cut
    → AreLive p items
live-from [] first p some is low = absurd (omega arith)
live-from (x ∷ items) first p some is low = subst (λ (c : Checkpoint). p ≤ c.cut) is low

pub live-none : (items : List Checkpoint) (p : ℕ) → length items ≡ 0 → AreLive p items
live-none [] p none = tt
live-none (x ∷ items) p none = absurd (omega arith)

-- of checkpoints at rising cuts none is above the last
pub not-above : (items rest : List Checkpoint) (at : ℕ) (last : Checkpoint) (cut : ℕ)
    → IsStrictlyIncreasing (map (λ (x : Checkpoint). x.cut) (items ++ rest))
    → length items ≡ at + 1 → last ≡ get_or items at last → last.cut ≤ cut → All (λ (x : Checkpoint). x.cut ≤ cut) items
not-above items rest at last cut rises count is low k d inside =
    elim (cases_lt k at) [
      | inl before ↦
          (let many = length-map (items ++ rest) (λ (x : Checkpoint). x.cut) in
          let less =
          far (map (λ (x : Checkpoint). x.cut) (items ++ rest)) rises k at before (omega (arith, many, length-append items rest)) in
          let here = cut-at k inside in
          let there = cut-at at (omega arith) in
          let under = last-low d in
          omega arith)
      | inr not_before ↦ (let same : k ≡ at = omega arith in subst (λ n. (get_or items n d).cut ≤ cut) (sym same) (last-low d))
    ]
  where
    cut-at : (n : ℕ) → n < length items → get_or (map (λ (x : Checkpoint). x.cut) (items ++ rest)) n 0 ≡ (get_or items n d).cut
    cut-at n below =
        get_or-map (λ (x : Checkpoint). x.cut) (items ++ rest) n d 0 (omega (arith, length-append items rest))
        ∙ ap (λ (x : Checkpoint). x.cut) (get_or_append_left items rest d n below)

    last-low : (y : Checkpoint) → (get_or items at y).cut ≤ cut
    last-low = at_read items (λ (x : Checkpoint). x.cut ≤ cut) at last (omega arith) is low

-- with the last one those after the cut that were given up go on being so
module _ (before items later : List Checkpoint) (popped : Option Checkpoint) (at : ℕ) (within : at < length items)
    (seen : Checkpoint) (is : seen ≡ get_or items at seen) (same : IfSome popped (λ x. x ≡ get_or items at x))
    (P : Checkpoint → Type 0) (holds : P seen) where
  popped-too : (o : Option Checkpoint) → IfSome o (λ x. x ≡ get_or items at x) → All P (option_to_list o)
  popped-too None here = All-nil P
  popped-too (Some x) here = All-cons P x [] (subst P (sym here) (at_read items P at seen within is holds x)) (All-nil P)

  pub last-dropped : (rest : List Checkpoint) → before ≡ items ++ rest → items ≡ later ++ option_to_list popped → All P rest
      → (before ≡ later ++ (option_to_list popped ++ rest)) × All P (option_to_list popped ++ rest)
  last-dropped rest split pops all = (
    split ∙ ap (λ xs. xs ++ rest) pops ∙ append_assoc later (option_to_list popped) rest,
    All-append P (option_to_list popped) rest (popped-too popped same) all,
  )

  pub first-dropped : (front : List Checkpoint) → before ≡ front ++ items → items ≡ option_to_list popped ++ later → All P front
      → (before ≡ (front ++ option_to_list popped) ++ later) × All P (front ++ option_to_list popped)
  first-dropped front split pops all = (
    split ∙ ap (λ xs. front ++ xs) pops ∙ sym (append_assoc front (option_to_list popped) later),
    All-append P front (option_to_list popped) all (popped-too popped same),
  )
