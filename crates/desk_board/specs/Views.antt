-- What seats know, whatever hands their passes have: how it is cut and put together, and what a clerk learns who takes a run.
use Rattle.std.specs.Prelude.{◌≡◌, ℕ, ◌+◌, ◌≤◌, ◌∷◌, length, map, replicate, slice_get, Some, None, All}
use Rattle.atomic_table.specs.Table.{State, Me, Step, Splits, opening}
use Rattle.atomic_table.specs.Seated.{TableId}
use Rattle.atomic_table.specs.declared.shared.Seat.{Seat}
use Rattle.desk_board.specs.Rule.{no_book}
use Rattle.desk_board.specs.Told.{book_took}
use Rattle.desk_board.specs.declared.view.About.{About}
use Rattle.desk_board.specs.declared.view.BoardSetup.{BoardSetup}
use Rattle.desk_board.specs.declared.view.SeatView.{SeatView}
use Rattle.desk_board.specs.declared.view.Slot.{Slot}
use Rattle.desk_board.specs.declared.view.Slot.TheVariants.{Todo, Done}

module _ {J W H : Type 0} where
  -- a seat that was joined into another, or the seat of a desk
  abbrev pub given_up : H → SeatView J W H
  given_up none = record { about = None; hand = none; book = no_book }

  -- the pass that was split, and the new one
  abbrev pub cut_left : (H → H) → SeatView J W H → SeatView J W H
  cut_left kept v = record v { hand = kept v.hand }

  abbrev pub cut_right : (H → H) → SeatView J W H → SeatView J W H
  cut_right given v = record v { hand = given v.hand; book = no_book }

  -- the first pass, and the clerk
  abbrev pub pass_part : SeatView J W H → SeatView J W H
  pass_part v = record v { book = no_book }

  abbrev pub clerk_part : H → SeatView J W H → SeatView J W H
  clerk_part none v = record v { hand = none }

  -- two passes as one
  abbrev pub passes_both : (H → H → H) → SeatView J W H → SeatView J W H → SeatView J W H
  passes_both both v u = record v { hand = both v.hand u.hand }

  -- the clerk with the hand of the pass
  abbrev pub gathered_both : SeatView J W H → SeatView J W H → SeatView J W H
  gathered_both v u = record v { hand = u.hand }

  -- a seat of the board that was made of `about`
  abbrev pub IsOf : {R : Type 0} → TableId → About J W → Seat (Slot J R) (SeatView J W H) → Type 0
  IsOf id about seat = (seat.table_id ≡ id) × (seat.me.0.about ≡ Some about)

-- what a seat knows: its view, and the slots that it has
abbrev Known : Type 0 → Type 0 → Type 0 → Type 0 → Type 0
Known J W R H = Me (Slot J R) (SeatView J W H)

module _ {J W R H : Type 0} where
  -- the run of desk k's job was taken
  abbrev pub TookFrom : (W → J → R → Type 0) → About J W → ℕ → Known J W R H → Known J W R H → Type 0
  TookFrom is_run about k m m' =
      (job : J) × (run : R) × (slice_get about.jobs k ≡ Some job) × is_run about.with job run
      × (m' ≡ (record m.0 { book = book_took k m.0.book }, (k, Done run) ∷ m.1))

  -- a run was collected
  abbrev pub took : (W → J → R → Type 0) → Step (Slot J R) → Known J W R H → ℕ → Known J W R H → Type 0
  took is_run st m found m' = (k : ℕ) (about : About J W) → st.word ≡ k + 1 → m.0.about ≡ Some about → TookFrom is_run about k m m'

-- the rule allows a new board of whatever jobs that fit, and that its first seat becomes that of the first pass and that of the clerk
abbrev pub Opens : {J W R H : Type 0} → (W → J → Type 0) → (BoardSetup J W → State (Slot J R) (SeatView J W H) → Type 0)
    → (BoardSetup J W → SeatView J W H) → H → Type 0
Opens {J} {W} {R} {H} fits holds first none =
    (plan : BoardSetup J W) → length plan.jobs.value.items ≤ 65536 → All (fits plan.with.value) plan.jobs.value.items
    → holds plan (opening (replicate (length plan.jobs.value.items + 1) 0) (map Todo plan.jobs.value.items) (first plan))
    × ((id : ℕ) (v : SeatView J W H) → Splits (holds plan) id v (pass_part v) (clerk_part none v))
