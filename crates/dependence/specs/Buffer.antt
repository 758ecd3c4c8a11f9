-- A history buffer while positions are applied and undone (J. E. Smith and A. R. Pleszkun, Implementation of precise interrupts in
-- pipelined processors, ISCA 1985): what stands of its state, its histories and its lines.
use Rattle.std.specs.Prelude.{◌≡◌, ◌≢◌, ℕ, ◌+◌, ◌<◌, ◌≤◌, ℤ, Bool, true, false, cond, nat_eq, List, [], Option, Some, None}
use Rattle.gp_base.specs.declared.footprint.Loc.{Loc}
use Rattle.gp_base.specs.declared.footprint.Footprint.{Footprint}
use Rattle.task_ast.specs.declared.effect.Effect.{Effect}
use Rattle.task_ast.specs.meaning.State.{Location, State}
use Rattle.task_ast.specs.meaning.Effect.{after}
use Rattle.task_ast.specs.History.{old_of}
use Rattle.task_ast.specs.Fold.{Member, fold}
use Rattle.dependence.specs.Conflict.{InConflict}
use Rattle.dependence.specs.Histories.{HasCells}
use Rattle.dependence.specs.Touching.{MayTouch, Agree, done_by, KeepToFeet}
use Rattle.dependence.specs.Insertion.{with_position, ClosedBefore}
use Rattle.dependence.specs.Removal.{without, done_in, history_in, undone_part}

-- the state, and of each position that is applied its history and its lines
pub record Buffer : Type 0 where
  pub state : State
  pub histories : ℕ → Option Effect
  pub lines : ℕ → List (List ℤ)

-- the state is the fold of the set; each of its positions from `low` on has its history and its lines, and the others have no history;
-- with a position, the set has each earlier one in conflict with it
pub record BufferStands (Clash : ℕ → ℕ → Type 0) (members : ℕ → Member) (opening : State) (set : ℕ → Bool) (low front : ℕ)
    (buffer : Buffer) : Type 0 where
  pub state_is : buffer.state ≡ fold members opening set front
  pub histories_are : (p : ℕ) → low ≤ p → set p ≡ true → buffer.histories p ≡ Some (history_in members opening set p)
  pub lines_are : (p : ℕ) → low ≤ p → set p ≡ true → buffer.lines p ≡ (done_in members opening set p).prints
  pub others_have_none : (p : ℕ) → low ≤ p → set p ≡ false → buffer.histories p ≡ None
  pub closed : ClosedBefore Clash set
  pub below : (p : ℕ) → set p ≡ true → p < front

-- a position that may be applied: it is below the front and not in the set, which has each earlier one in conflict with it
pub record MayApply (Clash : ℕ → ℕ → Type 0) (set : ℕ → Bool) (front p : ℕ) : Type 0 where
  pub below : p < front
  pub absent : set p ≡ false
  pub ready : (q : ℕ) → q < p → Clash q p → set q ≡ true

-- a part that may be undone: none of it is before `low`, and with a position it has each later one in conflict with it
pub record MayUndo (Clash : ℕ → ℕ → Type 0) (low front : ℕ) (part : ℕ → Bool) : Type 0 where
  pub late : (p : ℕ) → p < low → part p ≡ false
  pub closed : (p q : ℕ) → p < q → q < front → part p ≡ true → Clash p q → part q ≡ true

-- with another value at one position
abbrev pub with_at : {A : Type 0} → (ℕ → A) → ℕ → A → ℕ → A
with_at all p new q = cond (nat_eq q p) new (all q)

-- with this value at each position of a part
abbrev pub cleared : {A : Type 0} → A → (ℕ → A) → (part : ℕ → Bool) → ℕ → A
cleared none all part q = cond (part q) none (all q)

-- the buffer after position p has done this
abbrev pub buffer_with : ℕ → Effect → Buffer → Buffer
buffer_with p done buffer =
    record {
      state = after done buffer.state;
      histories = with_at buffer.histories p (Some (old_of done buffer.state));
      lines = with_at buffer.lines p done.prints;
    }

-- the buffer after the part below the front was undone
abbrev pub buffer_without : (part : ℕ → Bool) → (front : ℕ) → Buffer → Buffer
buffer_without part front buffer =
    record {
      state = undone_part buffer.histories part front buffer.state;
      histories = cleared None buffer.histories part;
      lines = cleared [] buffer.lines part;
    }

-- a position that is applied late leaves what it would have left in its place
abbrev pub AppliedLaw : Type 0
AppliedLaw =
    (location : Location → Loc) (feet : ℕ → Footprint) (members : ℕ → Member) (opening : State) (set : ℕ → Bool) (low front : ℕ)
    (buffer : Buffer) (p : ℕ)
    → KeepToFeet location feet members → BufferStands (InConflict feet) members opening set low front buffer → low ≤ p
    → MayApply (InConflict feet) set front p
    → BufferStands (InConflict feet) members opening (with_position set p) low front
    (buffer_with p (done_by (members p) buffer.state) buffer)

-- what a position finds that is not in the set, at what it may touch, is what it finds in the fold below it
abbrev pub FoundLaw : Type 0
FoundLaw =
    (location : Location → Loc) (feet : ℕ → Footprint) (members : ℕ → Member) (opening : State) (set : ℕ → Bool) (low front : ℕ)
    (buffer : Buffer) (p : ℕ)
    → KeepToFeet location feet members → BufferStands (InConflict feet) members opening set low front buffer → p < front → set p ≡ false
    → Agree (MayTouch location (feet p)) buffer.state (fold members opening set p)

-- of two positions that may be applied, the one finds the same after the other
abbrev pub ApartLaw : Type 0
ApartLaw =
    (location : Location → Loc) (feet : ℕ → Footprint) (members : ℕ → Member) (opening : State) (set : ℕ → Bool) (low front : ℕ)
    (buffer : Buffer) (p q : ℕ)
    → KeepToFeet location feet members → BufferStands (InConflict feet) members opening set low front buffer → low ≤ p
    → MayApply (InConflict feet) set front p
    → q ≢ p → MayApply (InConflict feet) set front q
    → Agree (MayTouch location (feet q)) (buffer_with p (done_by (members p) buffer.state) buffer).state buffer.state

-- what is left after a part was undone stands as if that part had never been
abbrev pub UndoneLaw : Type 0
UndoneLaw =
    (location : Location → Loc) (feet : ℕ → Footprint) (members : ℕ → Member) (opening : State) (set part : ℕ → Bool)
    (low front : ℕ) (buffer : Buffer)
    → KeepToFeet location feet members → HasCells opening → BufferStands (InConflict feet) members opening set low front buffer
    → MayUndo (InConflict feet) low front part
    → BufferStands (InConflict feet) members opening (without set part) low front (buffer_without part front buffer)

-- a position that is neither in the set nor in the part finds the same after the part was undone
abbrev pub UntouchedLaw : Type 0
UntouchedLaw =
    (location : Location → Loc) (feet : ℕ → Footprint) (members : ℕ → Member) (opening : State) (set part : ℕ → Bool) (low front : ℕ)
    (buffer : Buffer) (p : ℕ)
    → KeepToFeet location feet members → HasCells opening → BufferStands (InConflict feet) members opening set low front buffer
    → MayUndo (InConflict feet) low front part
    → p < front → set p ≡ false → part p ≡ false
    → Agree (MayTouch location (feet p)) (buffer_without part front buffer).state buffer.state

-- members may be others where they are not in the set
abbrev pub MembersLaw : Type 0
MembersLaw =
    (feet : ℕ → Footprint) (members others : ℕ → Member) (opening : State) (set : ℕ → Bool) (low front : ℕ) (buffer : Buffer)
    → ((p : ℕ) → set p ≡ true → members p ≡ others p) → BufferStands (InConflict feet) members opening set low front buffer
    → BufferStands (InConflict feet) others opening set low front buffer

-- one more position below the front
abbrev pub OneMoreLaw : Type 0
OneMoreLaw =
    (feet : ℕ → Footprint) (members : ℕ → Member) (opening : State) (set : ℕ → Bool) (low front : ℕ) (buffer : Buffer)
    → BufferStands (InConflict feet) members opening set low front buffer
    → BufferStands (InConflict feet) members opening set low (front + 1) buffer
