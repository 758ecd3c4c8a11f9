-- The rule of a board of m jobs whose desks are claimed one by one: what holds of its words, its slots and all views between any
-- two steps. Word 0 stays 0. Desk k has word k + 1 (0 to do, 1 claimed, 2 done, 3 collected) and slot k. A view is what a seat
-- knows: that of a pass, of the clerk, or of nobody any more. What passes have is counted by sums over all views.
use Rattle.std.specs.Prelude.{◌≡◌, ℕ, ◌+◌, ◌<◌, ◌≤◌, List, [], slice_index, sum_by, Option, Some, None, IfSome}
use mathlib.Core.Option.{some, none}
use mathlib.Core.Option as maybe
use lib.ListN.{get_elem?}
use Rattle.atomic_table.specs.Table.{State}
use Rattle.desk_board.specs.Rule.{times, no_book, first_book, about_of, BoardKind, SeatOk, KeptBy}
use Rattle.desk_board.specs.declared.view.About.{About}
use Rattle.gp_steal.specs.declared.view.Hand.{Hand}
use Rattle.desk_board.specs.declared.view.SeatView.{SeatView}
use Rattle.desk_board.specs.declared.view.BoardSetup.{BoardSetup}
use Rattle.desk_board.specs.declared.view.Slot.{Slot}
use Rattle.desk_board.specs.declared.view.Slot.TheVariants.{Todo, Done}

-- what a seat at such a board knows
abbrev pub View : Type 0 → Type 0 → Type 0
View J W = SeatView J W Hand

-- nothing in hand: no pass
abbrev pub no_hand : Hand
no_hand = record { share = 0; claimed = []; held = []; swept = 0; tried = None }

-- how far a desk has come
pub data Stage : Type 0 where
  waiting : Stage
  claimed : Stage
  done : Stage
  collected : Stage

-- the first pass has the whole share and no desk
abbrev pub first_hand : Hand
first_hand = record { share = 64; claimed = []; held = []; swept = 0; tried = None }

module _ {J W : Type 0} where
  -- a view that knows nothing: a seat that was joined into another, or the seat of a desk
  abbrev pub blank : View J W
  blank = record { about = None; hand = no_hand; book = no_book }

  -- the first seat has every share, and is the clerk
  abbrev pub first_view : BoardSetup J W → View J W
  first_view plan = record { about = Some (about_of plan); hand = first_hand; book = first_book }

  -- how often all views together have desk k as claimed, as held and as taken
  abbrev pub claims : List (View J W) → ℕ → ℕ
  claims views k = sum_by (λ v. times k v.hand.claimed) views

  abbrev pub helds : List (View J W) → ℕ → ℕ
  helds views k = sum_by (λ v. times k v.hand.held) views

  abbrev pub takens : List (View J W) → ℕ → ℕ
  takens views k = sum_by (λ v. times k v.book.taken) views

module _ {J W R : Type 0} (is_run : W → J → R → Type 0) (with : W) where
  -- desk k with its job: what the desk's word, its slot and the three sums are at each stage
  module _ (job : J) (word : ℕ) (home : maybe.Option (maybe.Option (Slot J R))) (claims helds takens : ℕ) where
    abbrev pub AtStage : Stage → Type 0
    AtStage waiting = (word ≡ 0) × (home ≡ some (some (Todo job))) × (claims ≡ 0) × (helds ≡ 0) × (takens ≡ 0)
    AtStage claimed = (word ≡ 1) × (home ≡ some none) × (claims ≡ 1) × (helds ≡ 1) × (takens ≡ 0)
    AtStage done =
        (word ≡ 2) × ((run : R) × (home ≡ some (some (Done run))) × is_run with job run) × (claims ≡ 1) × (helds ≡ 0) × (takens ≡ 0)
    AtStage collected = (word ≡ 3) × (home ≡ some none) × (claims ≡ 1) × (helds ≡ 0) × (takens ≡ 1)

-- what holds of the swept number and the last try of a hand, by the number of jobs and the words
--   within, below: the swept number is at most m, and each desk below it was claimed by somebody; last: so was the desk of the last
--   try, where that found a number other than 0
pub record TriesOk (m : ℕ) (words : List ℕ) (swept : ℕ) (tried : Option (ℕ × ℕ)) : Type 0 where
  pub within : swept ≤ m
  pub below : (k : ℕ) → k < swept → 1 ≤ slice_index words (k + 1)
  pub last : IfSome tried (λ t. 1 ≤ t.1 → 1 ≤ slice_index words (t.0 + 1))

module _ {J W R : Type 0} (is_run : W → J → R → Type 0) where
  -- desk k is at one stage, where the views, taken together, have it that often
  abbrev pub DeskOk : W → State (Slot J R) (View J W) → ℕ → J → Type 0
  DeskOk with s k job = (stage : Stage)
      × AtStage is_run with job (slice_index s.words (k + 1)) (get_elem? s.homes k) (claims s.views k) (helds s.views k)
      (takens s.views k) stage

  -- a board whose desks are claimed, where word 0 stays 0
  abbrev pub steal_kind : BoardKind J W R Hand
  steal_kind = record {
    share = λ h. h.share;
    got = λ h. h.claimed;
    held = λ h. h.held;
    back = 2;
    HandOk = λ m words h. TriesOk m words h.swept h.tried;
    DeskOk = DeskOk;
    Beside = λ m s. slice_index s.words 0 ≡ 0;
  }

-- what holds of one view, and the rule
abbrev pub ViewOk : {J W R : Type 0} → (W → J → R → Type 0) → About J W → List ℕ → View J W → Type 0
ViewOk is_run = SeatOk (steal_kind is_run)

abbrev pub Kept : {J W R : Type 0} → (W → J → Type 0) → (W → J → R → Type 0) → BoardSetup J W → State (Slot J R) (View J W) → Type 0
Kept fits is_run = KeptBy (steal_kind is_run) fits
