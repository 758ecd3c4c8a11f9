-- Which entries are runnable.
use Rattle.std.proofs.Common.{◌≡◌, ℕ, zero, suc, ◌+◌, ◌-◌, ◌<◌, ◌≤◌, true, false, List, [], ◌∷◌, length, Some, slice_get, get_or, sym, ap, subst, ◌∙◌, refl, arith, inl, inr}
use Rattle.std.proofs.lemmas.Bool.{cases_eq, cases_lt, false≢true, both_ways}
use Rattle.std.proofs.lemmas.Option.{slice_get_past}
use Rattle.reorder_list.specs.declared.entry.Entry.{Entry}
use Rattle.reorder_list.specs.declared.entry.State.{State}
use Rattle.reorder_list.specs.declared.entry.State.TheVariants.{Waiting, Out, Applied}
use Rattle.reorder_list.specs.Entries.{StandFrom, first_position, IsInRow, entry_at, is_waiting, is_applied}
use Rattle.reorder_list.specs.Runnable.{LetsPass, AllLetPass, IsRunnable, NoneRunnable}
use Rattle.reorder_list.proofs.Rows.{read-at, at-place, stands-at}

pub waits-is : (s : State) → is_waiting s ≡ true → s ≡ Waiting
waits-is Waiting e = refl
waits-is Out e = absurd (false≢true e)
waits-is Applied e = absurd (false≢true e)

pub applied-is : (s : State) → is_applied s ≡ true → s ≡ Applied
applied-is Waiting e = absurd (false≢true e)
applied-is Out e = absurd (false≢true e)
applied-is Applied e = refl

-- the entry that is read at a place stands at the position as far from the first
pub read-there : (entries : List Entry) (k : ℕ) (e : Entry) → IsInRow entries → k < length entries → e ≡ get_or entries k e
    → entry_at entries (first_position entries + k) ≡ Some e
read-there entries k e row l read =
    at-place entries row (first_position entries + k) k (record { within = l; position = refl }) ∙ read-at entries k e l read

-- one entry stands at a position
pub one-entry : (entries : List Entry) (p : ℕ) (x e : Entry) → entry_at entries p ≡ Some x → entry_at entries p ≡ Some e → x ≡ e
one-entry entries p x e a b = let both = sym a ∙ b in cc both

module _ (entries : List Entry) (row : IsInRow entries) (k : ℕ) (l : k < length entries) (e : Entry) (read : e ≡ get_or entries k e) where
  pub not-waiting : is_waiting e.state ≡ false → ¬ IsRunnable entries (first_position entries + k)
  not-waiting is runnable =
      let same = one-entry entries (first_position entries + k) runnable.entry e runnable.is_there (read-there entries k e row l read) in
      both_ways (is_waiting e.state) is (ap is_waiting (ap (λ (x : Entry). x.state) (sym same) ∙ runnable.waits))

  pub runnable-then : is_waiting e.state ≡ true → AllLetPass entries (first_position entries + k) e
      → IsRunnable entries (first_position entries + k)
  runnable-then is ready = record { entry = e; is_there = read-there entries k e row l read; waits = waits-is e.state is; ready = ready }

  module _ (j : ℕ) (before : j < k) (x : Entry) (read_too : x ≡ get_or entries j x) where
    pub blocked : ¬ LetsPass x e → ¬ IsRunnable entries (first_position entries + k)
    blocked not runnable =
        let same = one-entry entries (first_position entries + k) runnable.entry e runnable.is_there (read-there entries k e row l read) in
        not (subst (LetsPass x) same (runnable.ready (first_position entries + j) x (omega arith)
        (read-there entries j x row (omega arith) read_too)))

    pub let-pass-more : LetsPass x e → AllLetPass entries (first_position entries + j) e
        → AllLetPass entries (first_position entries + (j + 1)) e
    let-pass-more lets so_far q y low there =
        elim (cases_eq q (first_position entries + j)) [
          | inl same ↦
              (let is = one-entry entries (first_position entries + j) x y (read-there entries j x row (omega arith) read_too)
              (ap (entry_at entries) (sym same) ∙ there) in
              subst (λ z. LetsPass z e) is lets)
          | inr ne ↦ so_far q y (omega arith) there
        ]

-- from one position on none is runnable before the place of the first entry from another on, where none is so far
pub none-all : (entries : List Entry) (from below k end : ℕ) → IsInRow entries → end ≤ k
    → (end < length entries → below ≤ first_position entries + end) → NoneRunnable entries from (first_position entries + k)
    → NoneRunnable entries from below
none-all entries from below k end row past later so_far q l low runnable =
    elim (cases_lt q (first_position entries + k)) [
      | inl seen ↦ so_far q l seen runnable
      | inr unseen ↦
          elim (cases_lt end (length entries)) [
            | inl inside ↦ absurd (let high = later inside in omega arith)
            | inr outside ↦
                absurd (let gone = stands-at (first_position entries) q (q - first_position entries) entries row (omega arith)
                ∙ slice_get_past entries (q - first_position entries) (omega arith) in
                let both = sym gone ∙ runnable.is_there in cc both)
          ]
    ]

-- the position that is read at a place
pub position-at : (b k : ℕ) (entries : List Entry) (e : Entry) → StandFrom b entries → slice_get entries k ≡ Some e → e.pos ≡ b + k
position-at b k [] e stands there = absurd (cc there)
position-at b zero (x ∷ entries) e stands there =
    let same : e.pos ≡ x.pos = ap (λ (z : Entry). z.pos) (let is : e ≡ x = cc there in is) in
    let first = stands.0 in
    omega arith
position-at b (suc k) (x ∷ entries) e stands there = let rest = position-at (suc b) k entries e stands.1 there in omega arith

pub read-position : (entries : List Entry) (k : ℕ) (e : Entry) → IsInRow entries → k < length entries → e ≡ get_or entries k e
    → e.pos ≡ first_position entries + k
read-position entries k e row l read = position-at (first_position entries) k entries e row (read-at entries k e l read)
