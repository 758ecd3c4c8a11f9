-- The rule of a board of m jobs: what holds of its words, its slots and all views between any two steps. Word 0 counts the
-- tickets that were taken. Desk k has word k + 1 (0 to do, 1 done, 2 collected) and slot k. A view is what a seat knows: that
-- of a pass, of the clerk, or of nobody any more. What passes have is counted by sums over all views.
use Rattle.std.specs.Prelude.{◌≡◌, ℕ, ◌+◌, ◌<◌, ◌≤◌, eqb, List, [], length, slice_index, slice_get, sum_by, count_by, Some, None, IfSome, All}
use mathlib.Core.Option.{some, none}
use mathlib.Core.Option as maybe
use lib.ListN.{get_elem?}
use Rattle.atomic_table.specs.Table.{State}
use Rattle.desk_board.specs.declared.view.About.{About}
use Rattle.desk_board.specs.declared.view.Hand.{Hand}
use Rattle.desk_board.specs.declared.view.Book.{Book}
use Rattle.desk_board.specs.declared.view.SeatView.{SeatView}
use Rattle.desk_board.specs.declared.view.BoardSetup.{BoardSetup}
use Rattle.desk_board.specs.declared.view.Slot.{Slot}
use Rattle.desk_board.specs.declared.view.Slot.TheVariants.{Todo, Done}

-- how often the desk stands in the list
abbrev pub times : ℕ → List ℕ → ℕ
times k desks = count_by (λ d. eqb d k) desks

-- the share of a pass that has not ended
abbrev pub live : Hand → ℕ
live h = elim h.ticket [ None ↦ h.share | Some t ↦ 0 ]

-- what a seat at such a board knows
abbrev pub View : Type 0 → Type 0 → Type 0
View J W = SeatView J W Hand

-- nothing in hand: no pass
abbrev pub no_hand : Hand
no_hand = record { share = 0; passes = 0; drawn = []; held = []; ticket = None }

-- nothing on the books: no clerk
abbrev pub no_book : Book
no_book = record { clerk = 0; seen = []; taken = []; looks = 0; last = None }

-- how far a desk has come
pub data Stage : Type 0 where
  waiting : Stage
  drawn : Stage
  done : Stage
  collected : Stage

-- the first pass has the whole share and no desk
abbrev pub first_hand : Hand
first_hand = record { share = 64; passes = 1; drawn = []; held = []; ticket = None }

-- the clerk of a new board has seen and taken nothing
abbrev pub first_book : Book
first_book = record { clerk = 1; seen = []; taken = []; looks = 0; last = None }

module _ {J W : Type 0} where
  -- the jobs of the board, and what they are run under
  abbrev pub about_of : BoardSetup J W → About J W
  about_of plan = record { jobs = plan.jobs.value.items; with = plan.with.value }

  -- a view that knows nothing: a seat that was joined into another, or the seat of a desk
  abbrev pub blank : View J W
  blank = record { about = None; hand = no_hand; book = no_book }

  -- the first seat has every share, and is the clerk
  abbrev pub first_view : BoardSetup J W → View J W
  first_view plan = record { about = Some (about_of plan); hand = first_hand; book = first_book }

  -- how often all views together have desk k as drawn, as held and as taken
  abbrev pub drawns : List (View J W) → ℕ → ℕ
  drawns views k = sum_by (λ v. times k v.hand.drawn) views

  abbrev pub helds : List (View J W) → ℕ → ℕ
  helds views k = sum_by (λ v. times k v.hand.held) views

  abbrev pub takens : List (View J W) → ℕ → ℕ
  takens views k = sum_by (λ v. times k v.book.taken) views

module _ {J W R : Type 0} (is_run : W → J → R → Type 0) (with : W) where
  -- desk k with its job: what the counter of tickets, the desk's word, its slot and the three sums are at each stage
  module _ (k : ℕ) (job : J) (counter word : ℕ) (home : maybe.Option (maybe.Option (Slot J R))) (drawns helds takens : ℕ) where
    abbrev pub AtStage : Stage → Type 0
    AtStage waiting = (counter ≤ k) × (word ≡ 0) × (home ≡ some (some (Todo job))) × (drawns ≡ 0) × (helds ≡ 0) × (takens ≡ 0)
    AtStage drawn = (k < counter) × (word ≡ 0) × (home ≡ some none) × (drawns ≡ 1) × (helds ≡ 1) × (takens ≡ 0)
    AtStage done =
        (k < counter) × (word ≡ 1) × ((run : R) × (home ≡ some (some (Done run))) × is_run with job run) × (drawns ≡ 1)
        × (helds ≡ 0) × (takens ≡ 0)
    AtStage collected = (k < counter) × (word ≡ 2) × (home ≡ some none) × (drawns ≡ 1) × (helds ≡ 0) × (takens ≡ 1)

-- what differs between kinds of boards
--   share, got, held: the share of a hand, the desks that it has got from the board, and those of them that it holds; back: where a
--   desk's word is at least this its run is back; HandOk: what holds besides of a hand, by the number of jobs and the words;
--   DeskOk: what holds of a desk with its job; Beside: what holds besides of a state, by the number of jobs
pub record BoardKind (J W R H : Type 0) : Type 1 where
  pub share : H → ℕ
  pub got : H → List ℕ
  pub held : H → List ℕ
  pub back : ℕ
  pub HandOk : ℕ → List ℕ → H → Type 0
  pub DeskOk : W → State (Slot J R) (SeatView J W H) → ℕ → J → Type 0
  pub Beside : ℕ → State (Slot J R) (SeatView J W H) → Type 0

-- what holds of one view
--   same: it has the jobs of the board; knows: a pass with a share has them, and so has the clerk; idle: without a share it has no
--   desk; own: it holds only desks that it got; others: only the clerk takes; seen: what was seen done has its run back
pub record SeatOk {J W R H : Type 0} (kind : BoardKind J W R H) (about : About J W) (words : List ℕ) (v : SeatView J W H) : Type 0 where
  pub same : IfSome v.about (λ a. a ≡ about)
  pub knows : v.about ≡ None → (kind.share v.hand ≡ 0) × (v.book.clerk ≡ 0)
  pub idle : kind.share v.hand ≡ 0 → (kind.got v.hand ≡ []) × (kind.held v.hand ≡ [])
  pub own : (k : ℕ) → times k (kind.held v.hand) ≤ times k (kind.got v.hand)
  pub hand : kind.HandOk (length about.jobs) words v.hand
  pub others : v.book.clerk ≡ 0 → v.book.taken ≡ []
  pub seen : (k : ℕ) → 0 < times k v.book.seen → kind.back ≤ slice_index words (k + 1)

-- the rule of a board of some kind
--   few: so a counter can't wrap; wide, deep: there is a word and a slot for each desk; shares: the passes share 64 parts;
--   clerks: there is one clerk; beyond: nobody has got a desk that isn't there
pub record KeptBy {J W R H : Type 0} (kind : BoardKind J W R H) (fits : W → J → Type 0) (plan : BoardSetup J W)
    (s : State (Slot J R) (SeatView J W H)) : Type 0 where
  pub all_fit : All (fits plan.with.value) plan.jobs.value.items
  pub few : length plan.jobs.value.items ≤ 65536
  pub wide : length s.words ≡ length plan.jobs.value.items + 1
  pub deep : length s.homes ≡ length plan.jobs.value.items
  pub shares : sum_by (λ v. kind.share v.hand) s.views ≡ 64
  pub clerks : sum_by (λ v. v.book.clerk) s.views ≡ 1
  pub beyond : (k : ℕ) → length plan.jobs.value.items ≤ k → sum_by (λ v. times k (kind.got v.hand)) s.views ≡ 0
  pub beside : kind.Beside (length plan.jobs.value.items) s
  pub each_desk : (k : ℕ) (job : J) → slice_get plan.jobs.value.items k ≡ Some job → kind.DeskOk plan.with.value s k job
  pub each_view : (j : ℕ) (v : SeatView J W H) → get_elem? s.views j ≡ some v → SeatOk kind (about_of plan) s.words v

module _ {J W R : Type 0} (is_run : W → J → R → Type 0) where
  -- desk k is at one stage, where the views, taken together, have it that often
  abbrev pub DeskOk : W → State (Slot J R) (View J W) → ℕ → J → Type 0
  DeskOk with s k job = (stage : Stage)
      × AtStage is_run with k job (slice_index s.words 0) (slice_index s.words (k + 1)) (get_elem? s.homes k)
      (drawns s.views k) (helds s.views k) (takens s.views k) stage

  -- a board whose desks are drawn by tickets
  --   HandOk: a pass has ended only where the tickets passed the last desk; Beside: a ticket past the last desk ends a pass, so there
  --   are at most 64 of them
  abbrev pub board_kind : BoardKind J W R Hand
  board_kind = record {
    share = λ h. h.share;
    got = λ h. h.drawn;
    held = λ h. h.held;
    back = 1;
    HandOk = λ m words h. IfSome h.ticket (λ t. (m ≤ t) × (m ≤ slice_index words 0));
    DeskOk = DeskOk;
    Beside = λ m s. slice_index s.words 0 + sum_by (λ v. live v.hand) s.views ≤ m + 64;
  }

-- what holds of one view, and the rule
abbrev pub ViewOk : {J W R : Type 0} → (W → J → R → Type 0) → About J W → List ℕ → View J W → Type 0
ViewOk is_run = SeatOk (board_kind is_run)

abbrev pub Kept : {J W R : Type 0} → (W → J → Type 0) → (W → J → R → Type 0) → BoardSetup J W → State (Slot J R) (View J W) → Type 0
Kept fits is_run = KeptBy (board_kind is_run) fits
