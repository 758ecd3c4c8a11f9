-- At most one of a form is read exactly where the form is.
use Rattle.std.proofs.Common.{◌≡◌, ℕ, ◌+◌, Bool, true, false, cond, List, [], Option, Some, None, Ok, refl, sym, subst}
use Rattle.task_parser.specs.declared.token.Token.{Token}
use Rattle.task_parser.specs.meaning.Words.{Placed, Form, Made, perhaps, tokens_of}
use Rattle.task_parser.specs.inner.Reading.{Reader, begins, read_made, given, read_perhaps}
use Rattle.task_parser.specs.inner.Laws.{Outcome, Sound, Complete, Starts, Inhabited, Parted}
use Rattle.task_parser.proofs.Basics.{begins_same, verdict-bind}
use Rattle.task_parser.proofs.Exact.{made_any, outcome_as, Covers, Apart, begins_narrow, begins_apart, begins_longer}

perhaps_given : {A : Type 0} (P : Form A) (depth : ℕ) (placed : List Placed) (value : Option A) → Made given P depth placed value
    → perhaps P depth placed value
perhaps_given {A = A} P depth placed value h = subst (λ (v : Option A). perhaps P depth placed v) (sym h.is) h.stands

pub sound_perhaps : {A : Type 0} (room : ℕ) (first : Token → Bool) (P : Form A) (p : Reader A) → Sound room P p
    → Sound room (perhaps P) (read_perhaps first p)
sound_perhaps {A = A} room first P p sound depth ts = go (begins first ts) refl
  where
    go : (b : Bool) → begins first ts ≡ b
        → Outcome (depth + room) depth (perhaps P) (read_perhaps first p) ts (cond b (read_made given p ts) (Ok (None, ts)))
    go true e =
        outcome_as (depth + room) depth (Made given P) (perhaps P) (read_made given p) (read_perhaps first p) ts
        (λ placed value h. perhaps_given P depth placed value h) (λ other same. rw (begins_same first ts other same, e) refl)
        (read_made given p ts) (made_any (depth + room) depth given P p ts (p ts) (sound depth ts))
    go false e =
        record { used = []; parts = refl; within = tt; stands = refl; again = λ other same. rw (begins_same first ts other same, e) refl }

pub parted_perhaps : {A : Type 0} (first goes after : Token → Bool) (P : Form A) → Starts first P → Apart first goes → Covers goes after
    → Parted goes (perhaps P) after
parted_perhaps first goes after P starts apart covers depth used None rest h end = rw h (begins_narrow goes after rest covers end)
parted_perhaps first goes after P starts apart covers depth used (Some x) rest h end =
    begins_apart first goes (tokens_of used) rest apart (starts depth used x h)

pub complete_perhaps : {A : Type 0} (room : ℕ) (first goes after : Token → Bool) (P : Form A) (p : Reader A) → Starts first P
    → Complete room P goes p → Covers goes after → Covers first after → Complete room (perhaps P) after (read_perhaps first p)
complete_perhaps room first goes after P p starts cp covers stops depth used None rest h end =
    rw (h, begins_narrow first after rest stops end) refl
complete_perhaps {A = A} room first goes after P p starts cp covers stops depth used (Some x) rest h end =
    rw (
      begins_longer first (tokens_of used) rest (starts depth used x h),
      cp depth used x rest h (begins_narrow goes after rest covers end),
    )
    (verdict-bind {A = A × List Token} {B = Option A × List Token} (depth + room) used rest (Ok (x, rest)) (λ y. Ok (given y.0, y.1)))

pub inhabited_perhaps : {A : Type 0} (P : Form A) → Inhabited (perhaps P)
inhabited_perhaps P depth = ([], None, refl)
