-- The places that a footprint lets its subthread write and read, and the members of a fold that keep to them.
use Rattle.std.specs.Prelude.{◌≡◌, ◌⊎◌, ℕ, ℤ, true, List, Contains, option_map, unwrap_or, position}
use Rattle.std.specs.List.{list_all}
use Rattle.gp_base.specs.declared.footprint.Loc.{Loc}
use Rattle.gp_base.specs.declared.footprint.Loc.TheVariants as loc
use Rattle.gp_base.specs.declared.footprint.Footprint.{Footprint}
use Rattle.task_ast.specs.declared.effect.Effect.{Effect}
use Rattle.task_ast.specs.declared.tree.Head.{Head}
use Rattle.task_ast.specs.meaning.State.{Location, RegistersOf, CellOf, State}
use Rattle.task_ast.specs.meaning.Effect.{effect}
use Rattle.task_ast.specs.Damage.{damaged}
use Rattle.task_ast.specs.meaning.Footprint.{footprint}
use Rattle.task_ast.specs.meaning.Layout.{layout}
use Rattle.task_ast.specs.Layout.{fits_array}
use Rattle.task_ast.specs.Fold.{Member}
use Rattle.task_ast.specs.Members.{member_in}
use Rattle.task_ast.specs.meaning.Under.{under_lock}
use Rattle.task_ast.specs.Under.{NamesHeld}
use Rattle.task_ast.specs.meaning.Plain.{Subthread}
use Rattle.task_ast.specs.History.{IsNamed}
use Rattle.dependence.specs.meaning.Conflict.{foot_at}
use Rattle.dependence.specs.Conflict.{ClashIn}
use Rattle.dependence.specs.meaning.Dependents.{is_member}
use Rattle.dependence.specs.meaning.Runs.{feet_of}
use Rattle.dependence.specs.Runs.{lock_feet_of}

-- a subthread of this footprint may write the place, where each place has this location
abbrev pub MayWrite : (location : Location → Loc) → Footprint → Location → Type 0
MayWrite location foot place = Contains foot.writes (location place)

-- it may read or write the place
abbrev pub MayTouch : (location : Location → Loc) → Footprint → Location → Type 0
MayTouch location foot place = Contains foot.reads (location place) ⊎ Contains foot.writes (location place)

-- two states give the same at each of these places
abbrev pub Agree : (Location → Type 0) → State → State → Type 0
Agree Among left right = (place : Location) → Among place → left place ≡ right place

-- what a member does to a state, damage included
abbrev pub done_by : Member → State → Effect
done_by m state = damaged m.mask (effect m.thread m.begins m.child m.actions state)

-- a member names only places that it may write, and what it does depends on the places that it may touch alone
pub record KeepsTo (Writes Touches : Location → Type 0) (m : Member) : Type 0 where
  pub within : (state : State) (place : Location) → IsNamed (done_by m state) place → Writes place
  pub same : (left right : State) → Agree Touches left right → done_by m left ≡ done_by m right

-- each member keeps to its footprint
abbrev pub KeepToFeet : (location : Location → Loc) → (ℕ → Footprint) → (ℕ → Member) → Type 0
KeepToFeet location feet members = (p : ℕ) → KeepsTo (MayWrite location (feet p)) (MayTouch location (feet p)) (members p)

-- the registers of a thread are a location of their own
abbrev pub IsByThread : (location : Location → Loc) → Type 0
IsByThread location = (t : ℕ) → location (RegistersOf t) ≡ loc.Regs t

-- a record cell stands under one lock cell at most
abbrev pub IsApart : List (List ℕ) → Type 0
IsApart under = (lock other c : ℕ) → Contains (under_lock under lock) c → Contains (under_lock under other) c → lock ≡ other

-- a record cell is a location of its own
abbrev pub own_location : Location → Loc
own_location (RegistersOf t) = loc.Regs t
own_location (CellOf c) = loc.Rec c

-- the location of a cell is the lock cell over it, and of registers their own
abbrev pub lock_location : List (List ℕ) → Location → Loc
lock_location under (RegistersOf t) = loc.Regs t
lock_location under (CellOf c) = unwrap_or (option_map loc.Lock (position (is_member c) under)) (loc.Rec c)

-- a cell under a lock has that lock as its location
abbrev pub LocationLaw : Type 0
LocationLaw =
    (under : List (List ℕ)) (lock c : ℕ) → IsApart under → Contains (under_lock under lock) c
    → lock_location under (CellOf c) ≡ loc.Lock lock

-- a member keeps to its footprint
abbrev pub KeepsLaw : Type 0
KeepsLaw =
    (m : Member)
    → let foot = footprint m.thread m.begins m.child m.actions in KeepsTo (MayWrite own_location foot) (MayTouch own_location foot) m

-- each position of a run keeps to its footprint, those past its end included
abbrev pub RunKeepsLaw : Type 0
RunKeepsLaw =
    (run : List Subthread) (masks : ℕ → ℤ) → KeepToFeet own_location (foot_at (feet_of run)) (member_in run masks)

-- two positions that are in conflict by the cells that they name are so by the locks that they hold, where they name only cells under these
abbrev pub LocksClashLaw : Type 0
LocksClashLaw =
    (under : List (List ℕ)) (run : List Subthread) (p q : ℕ) → IsApart under → NamesHeld under run
    → ClashIn (feet_of run) p q → ClashIn (lock_feet_of run) p q

-- where the sizes of a program's arrays agree, its layout has each cell under one lock at most
abbrev pub LaidLaw : Type 0
LaidLaw = (heads : List Head) → list_all (fits_array heads) heads ≡ true → IsApart (layout heads).under
