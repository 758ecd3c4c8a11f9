-- What each step changes in the view of who makes it, and what that caller learns.
use Rattle.std.specs.Prelude.{◌≡◌, ℕ, ◌+◌, ◌-◌, ◌<◌, ◌≤◌, eqb, nat_lt, max, cond, Bool, IsTrue, ◌↔◌, List, [], ◌∷◌, ◌++◌, length, slice_get, Some, None}
use Rattle.atomic_table.specs.Table.{Me, Step, rest}
use Rattle.desk_board.specs.Rule.{times}
use Rattle.desk_board.specs.Told.{without, NoneTwice}
use Rattle.gp_steal.specs.Rule.{View}
use Rattle.desk_board.specs.declared.view.About.{About}
use Rattle.gp_steal.specs.declared.view.Hand.{Hand}
use Rattle.desk_board.specs.declared.view.Book.{Book}
use Rattle.desk_board.specs.declared.view.Slot.{Slot}
use Rattle.desk_board.specs.declared.view.Slot.TheVariants.{Todo}

-- the swept number after a try of desk k
abbrev pub swept_after : ℕ → ℕ → ℕ
swept_after k swept = cond (eqb k swept) (swept + 1) swept

-- a try of desk k found this number
abbrev pub hand_tried : ℕ → ℕ → Hand → Hand
hand_tried k found h = record h { swept = swept_after k h.swept; tried = Some (k, found) }

-- the pass has claimed desk k, and holds it
abbrev pub hand_claimed : ℕ → Hand → Hand
hand_claimed k h = record h { claimed = h.claimed ++ k ∷ []; held = h.held ++ k ∷ []; swept = swept_after k h.swept; tried = Some (k, 0) }

-- the pass holds desk k no more
abbrev pub hand_finished : ℕ → Hand → Hand
hand_finished k h = record h { held = without k h.held }

-- a look at desk k found this number
abbrev pub book_looked : ℕ → ℕ → Book → Book
book_looked k found b = record b { looks = b.looks + 1; last = Some (k, found); seen = cond (nat_lt found 2) b.seen (b.seen ++ k ∷ []) }

-- the whole share has swept all of m desks, with none in hand: no desk can be claimed or put back any more
abbrev pub IsWhole : ℕ → Hand → Type 0
IsWhole m h = (h.share ≡ 64) × (h.swept ≡ m) × (h.held ≡ [])

-- a look at desk k answered `seen`: the number found there was 2 (done) or 3 (collected), or else 0 (to do) or 1 (claimed)
abbrev pub HasLooked : ℕ → Bool → Book → Book → Type 0
HasLooked k seen before after = (found : ℕ) × (IsTrue seen ↔ 2 ≤ found) × (found ≤ 3) × (after ≡ book_looked k found before)

-- a try of desk k found it claimed already
abbrev pub HasFailed : ℕ → Hand → Hand → Type 0
HasFailed k before after = (found : ℕ) × (1 ≤ found) × (after ≡ hand_tried k found before)

-- each of m desks stands once in the list, and nothing else stands there
abbrev pub EachOnce : ℕ → List ℕ → Type 0
EachOnce m desks = ((k : ℕ) → k < m → times k desks ≡ 1) × ((k : ℕ) → m ≤ k → times k desks ≡ 0)

-- what a seat knows: its view, and the slots that it has
abbrev Known : Type 0 → Type 0 → Type 0 → Type 0
Known J W R = Me (Slot J R) (View J W)

module _ {J W R : Type 0} where
  -- a try of desk k that found it to do has it with its job; another changes the try alone
  abbrev pub TriedFrom : (W → J → Type 0) → About J W → ℕ → Known J W R → ℕ → Known J W R → Type 0
  TriedFrom fits about k m found m' =
      (found ≡ 0 → (job : J) × (slice_get about.jobs k ≡ Some job) × fits about.with job
      × (m' ≡ (record m.0 { hand = hand_claimed k m.0.hand }, (k, Todo job) ∷ m.1)) × NoneTwice (hand_claimed k m.0.hand).claimed)
      × (1 ≤ found → m' ≡ (record m.0 { hand = hand_tried k found m.0.hand }, m.1))

  -- a desk was tried
  abbrev pub tried : (W → J → Type 0) → Step (Slot J R) → Known J W R → ℕ → Known J W R → Type 0
  tried fits st m found m' = (k : ℕ) (about : About J W) → st.word ≡ k + 1 → m.0.about ≡ Some about → TriedFrom fits about k m found m'

  -- a run was put back: the pass gives the slot up
  abbrev pub finished : Step (Slot J R) → Known J W R → ℕ → Known J W R → Type 0
  finished st m found m' = (k : ℕ) → st.word ≡ k + 1 → m' ≡ (record m.0 { hand = hand_finished k m.0.hand }, rest m.1)

  -- a desk's word was read; where the clerk has gathered, its run is back, and each desk was claimed once
  abbrev pub looked : Step (Slot J R) → Known J W R → ℕ → Known J W R → Type 0
  looked st m found m' = (k : ℕ) (about : About J W) → st.word ≡ k + 1 → m.0.about ≡ Some about
      → (m' ≡ (record m.0 { book = book_looked k found m.0.book }, m.1)) × (found ≤ 3)
      × (IsWhole (length about.jobs) m.0.hand → (2 ≤ found) × EachOnce (length about.jobs) m.0.hand.claimed)

-- what two passes have together
abbrev pub hand_both : Hand → Hand → Hand
hand_both h g =
    record {
      share = h.share + g.share;
      claimed = h.claimed ++ g.claimed;
      held = h.held ++ g.held;
      swept = max h.swept g.swept;
      tried = h.tried;
    }

-- a part of 1 goes to a new pass, which has claimed and swept nothing
abbrev pub hand_kept : Hand → Hand
hand_kept h = record h { share = h.share - 1 }

abbrev pub hand_given : Hand
hand_given = record { share = 1; claimed = []; held = []; swept = 0; tried = None }
