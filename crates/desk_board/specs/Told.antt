-- What each step changes in the view of who makes it, and what that caller learns.
use Rattle.std.specs.Prelude.{◌≡◌, ℕ, ◌+◌, ◌-◌, ◌<◌, ◌≤◌, eqb, not, cond, Bool, IsTrue, ◌↔◌, List, [], ◌∷◌, ◌++◌, length, slice_get, filter, All, Option, Some, None}
use Rattle.atomic_table.specs.Table.{Me, Step, rest}
use Rattle.desk_board.specs.Rule.{times, View}
use Rattle.desk_board.specs.declared.view.About.{About}
use Rattle.desk_board.specs.declared.view.Hand.{Hand}
use Rattle.desk_board.specs.declared.view.Book.{Book}
use Rattle.desk_board.specs.declared.view.Slot.{Slot}
use Rattle.desk_board.specs.declared.view.Slot.TheVariants.{Todo}

-- the list without the desk
abbrev pub without : ℕ → List ℕ → List ℕ
without k desks = filter (λ d. not (eqb d k)) desks

-- the pass has drawn desk k, and holds it
abbrev pub hand_drew : ℕ → Hand → Hand
hand_drew k h = record h { drawn = h.drawn ++ k ∷ []; held = h.held ++ k ∷ [] }

-- the pass has ended at this ticket
abbrev pub hand_ended : ℕ → Hand → Hand
hand_ended t h = record h { ticket = Some t }

-- the pass holds desk k no more
abbrev pub hand_finished : ℕ → Hand → Hand
hand_finished k h = record h { held = without k h.held }

-- a look at desk k found this number
abbrev pub book_looked : ℕ → ℕ → Book → Book
book_looked k found b = record b { looks = b.looks + 1; last = Some (k, found); seen = cond (eqb found 0) b.seen (b.seen ++ k ∷ []) }

-- the run of desk k was collected
abbrev pub book_took : ℕ → Book → Book
book_took k b = record b { taken = b.taken ++ k ∷ [] }

-- the pass has ended
abbrev pub HasEnded : Hand → Type 0
HasEnded h = (t : ℕ) × (h.ticket ≡ Some t)

-- the whole share has ended, with no desk in hand: no desk can be drawn or put back any more
abbrev pub IsWhole : Hand → Type 0
IsWhole h = (h.share ≡ 64) × HasEnded h × (h.held ≡ [])

-- the pass ended at some ticket that is past the last of m desks
abbrev pub EndsPast : ℕ → Hand → Hand → Type 0
EndsPast m before after = (ticket : ℕ) × (m ≤ ticket) × (after ≡ hand_ended ticket before)

-- a look at desk k answered `seen`: the number found there was 1 (done) or 2 (collected), or else 0 (to do)
abbrev pub HasLooked : ℕ → Bool → Book → Book → Type 0
HasLooked k seen before after = (found : ℕ) × (IsTrue seen ↔ 1 ≤ found) × (found ≤ 2) × (after ≡ book_looked k found before)

-- no desk stands twice in the list
abbrev pub NoneTwice : List ℕ → Type 0
NoneTwice desks = (k : ℕ) → times k desks ≤ 1

-- each of m desks stands once in the list
abbrev pub EachOnce : ℕ → List ℕ → Type 0
EachOnce m desks = (k : ℕ) → k < m → times k desks ≡ 1

-- what a seat knows: its view, and the slots that it has
abbrev Known : Type 0 → Type 0 → Type 0 → Type 0
Known J W R = Me (Slot J R) (View J W)

module _ {J W R : Type 0} where
  -- a ticket below the number of jobs gives that desk with its job, above every desk drawn before; another ends the pass
  abbrev pub DrewFrom : (W → J → Type 0) → About J W → Known J W R → ℕ → Known J W R → Type 0
  DrewFrom fits about m found m' =
      (found < length about.jobs → (job : J) × (slice_get about.jobs found ≡ Some job) × fits about.with job
      × (m' ≡ (record m.0 { hand = hand_drew found m.0.hand }, (found, Todo job) ∷ m.1)) × All (λ d. d < found) m.0.hand.drawn
      × NoneTwice (hand_drew found m.0.hand).drawn)
      × (length about.jobs ≤ found → m' ≡ (record m.0 { hand = hand_ended found m.0.hand }, m.1))

  -- a ticket was taken
  abbrev pub drew : (W → J → Type 0) → Step (Slot J R) → Known J W R → ℕ → Known J W R → Type 0
  drew fits st m found m' = (about : About J W) → m.0.about ≡ Some about → DrewFrom fits about m found m'

  -- a run was put back: the pass gives the slot up
  abbrev pub finished : Step (Slot J R) → Known J W R → ℕ → Known J W R → Type 0
  finished st m found m' = (k : ℕ) → st.word ≡ k + 1 → m' ≡ (record m.0 { hand = hand_finished k m.0.hand }, rest m.1)

  -- a desk's word was read; where the clerk has gathered, its run is back, and each desk was drawn once
  abbrev pub looked : Step (Slot J R) → Known J W R → ℕ → Known J W R → Type 0
  looked st m found m' =
      (k : ℕ) → st.word ≡ k + 1 → (m' ≡ (record m.0 { book = book_looked k found m.0.book }, m.1)) × (found ≤ 2)
      × (IsWhole m.0.hand → 1 ≤ found) × ((about : About J W) → m.0.about ≡ Some about → IsWhole m.0.hand
      → EachOnce (length about.jobs) m.0.hand.drawn)

-- the first ticket, or else the second
abbrev pub ticket_either : Option ℕ → Option ℕ → Option ℕ
ticket_either a b = elim a [ None ↦ b | Some t ↦ Some t ]

-- what two passes have together
abbrev pub hand_both : Hand → Hand → Hand
hand_both h g =
    record {
      share = h.share + g.share;
      passes = h.passes + g.passes;
      drawn = h.drawn ++ g.drawn;
      held = h.held ++ g.held;
      ticket = ticket_either h.ticket g.ticket;
    }

-- a part of 1 goes to a new pass, which ended where this one did
abbrev pub hand_kept : Hand → Hand
hand_kept h = record h { share = h.share - 1 }

abbrev pub hand_given : Hand → Hand
hand_given h = record { share = 1; passes = 1; drawn = []; held = []; ticket = h.ticket }

module _ {J W : Type 0} where
  -- it is the job of desk k, and fits
  abbrev pub IsJobAt : (W → J → Type 0) → About J W → ℕ → J → Type 0
  IsJobAt fits about k job = (slice_get about.jobs k ≡ Some job) × fits about.with job

  -- it is a run of the job of desk k
  abbrev pub IsRunAt : {R : Type 0} → (W → J → R → Type 0) → About J W → ℕ → R → Type 0
  IsRunAt is_run about k run = (job : J) × (slice_get about.jobs k ≡ Some job) × is_run about.with job run
