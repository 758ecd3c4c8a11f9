-- How many entries there are of which it is not known what their subthreads touch.
use Rattle.std.proofs.Common.{◌≡◌, ℕ, zero, suc, ◌+◌, Bool, true, false, not, cond, IsTrue, List, [], ◌∷◌, ◌++◌, Some, refl, ap, arith}
use Rattle.std.specs.Prelude.{is_some, slice_get, slice_set}
use Rattle.std.proofs.lemmas.Bool.{false≢true}
use Rattle.std.proofs.lemmas.List.Sums.{sum_by-cons}
use Rattle.std.proofs.lemmas.List.Elements.{All-nil, All-cons, All-head, All-tail}
use Rattle.gp_base.specs.declared.footprint.Footprint.{Footprint}
use Rattle.reorder_list.specs.declared.entry.Entry.{Entry}
use Rattle.reorder_list.specs.Entries.{AllKnown, with_change, known_entry}
use Rattle.reorder_list.specs.Watched.{unknown_in}
use Rattle.reorder_list.proofs.Changes.{changed_where}

-- one of which it is known counts nothing, and another one
abbrev pub one_where : (known : Bool) → ℕ
one_where known = cond (not known) 1 0

abbrev pub one_in : Entry → ℕ
one_in e = one_where (is_some e.foot)

pub unknown-first : (e : Entry) (entries : List Entry) → unknown_in (e ∷ entries) ≡ one_in e + unknown_in entries
unknown-first e entries = sum_by-cons one_in e entries

pub unknown-push : (entries : List Entry) (e : Entry) → unknown_in (entries ++ e ∷ []) ≡ unknown_in entries + one_in e
unknown-push [] e = let last = unknown-first e [] in omega arith
unknown-push (x ∷ entries) e =
    let first = unknown-first x (entries ++ e ∷ []) in
    let old = unknown-first x entries in
    let rest = unknown-push entries e in
    omega arith

-- another entry takes the place of one
pub unknown-set : (k : ℕ) (entries : List Entry) (e y : Entry) → slice_get entries k ≡ Some e
    → unknown_in (slice_set entries k y) + one_in e ≡ unknown_in entries + one_in y
unknown-set k [] e y there = absurd (cc there)
unknown-set zero (x ∷ entries) e y there =
    let same : one_in x ≡ one_in e = ap one_in (let is : x ≡ e = cc there in is) in
    let new = unknown-first y entries in
    let old = unknown-first x entries in
    omega arith
unknown-set (suc k) (x ∷ entries) e y there =
    let new = unknown-first x (slice_set entries k y) in
    let old = unknown-first x entries in
    let rest = unknown-set k entries e y there in
    omega arith

-- where it is known of one, it does not count any more
pub known-set : (k : ℕ) (entries : List Entry) (e y : Entry) (foot : Footprint) → slice_get entries k ≡ Some e → y ≡ known_entry foot e
    → unknown_in (slice_set entries k y) + one_in e ≡ unknown_in entries
known-set k entries e y foot there is =
    let set = unknown-set k entries e y there in
    let none : one_in y ≡ 0 = ap one_in is in
    omega arith

-- a change keeps of each entry whether it is known what its subthread touches
abbrev pub KeepsKnown : (Entry → Entry) → Type 0
KeepsKnown change = (e : Entry) → is_some (change e).foot ≡ is_some e.foot

pub unknown-same : (test : ℕ → Bool) (change : Entry → Entry) (entries : List Entry) → KeepsKnown change
    → unknown_in (with_change test change entries) ≡ unknown_in entries
unknown-same test change [] keeps = refl
unknown-same test change (e ∷ entries) keeps =
    let y = changed_where (test e.pos) change e in
    let same : one_in y ≡ one_in e = ap (λ b. one_where b) (go (test e.pos)) in
    let new = unknown-first y (with_change test change entries) in
    let old = unknown-first e entries in
    let rest = unknown-same test change entries keeps in
    omega arith
  where
    go : (b : Bool) → is_some (changed_where b change e).foot ≡ is_some e.foot
    go true = keeps e
    go false = refl

one-known : (b : Bool) → one_where b ≡ 0 → IsTrue b
one-known true none = refl
one-known false none = absurd (omega arith)

known-one : (b : Bool) → IsTrue b → one_where b ≡ 0
known-one true known = refl
known-one false known = absurd (false≢true known)

-- where none is unknown, all are known
pub none-unknown : (entries : List Entry) → unknown_in entries ≡ 0 → AllKnown entries
none-unknown [] none = All-nil (λ (e : Entry). IsTrue (is_some e.foot))
none-unknown (e ∷ entries) none =
    let first = unknown-first e entries in
    All-cons (λ (x : Entry). IsTrue (is_some x.foot)) e entries (one-known (is_some e.foot) (omega arith))
    (none-unknown entries (omega arith))

pub all-known : (entries : List Entry) → AllKnown entries → unknown_in entries ≡ 0
all-known [] all = refl
all-known (e ∷ entries) all =
    let first = unknown-first e entries in
    let one = known-one (is_some e.foot) (All-head (λ (x : Entry). IsTrue (is_some x.foot)) e entries all) in
    let rest = all-known entries (All-tail (λ (x : Entry). IsTrue (is_some x.foot)) e entries all) in
    omega arith
