-- How a subthread that is redone is linked to an earlier one, with which it is in conflict.
use Rattle.std.specs.Prelude.{ℕ, pos, Bool, false, ◌&&◌, ◌||◌, cond, nat_eq, nat_lt, List, Option, Some, None, map, find}
use Rattle.std.specs.List.{list_any}
use Rattle.gp_base.specs.declared.footprint.Loc.{Loc}
use Rattle.gp_base.specs.declared.footprint.Loc.TheVariants.{Rec}
use Rattle.gp_base.specs.declared.footprint.Footprint.{Footprint}
use Rattle.task_ast.specs.declared.sync.SyncOp.{SyncOp}
use Rattle.task_ast.specs.declared.sync.SyncOp.TheVariants as sync
use Rattle.task_ast.specs.meaning.Plain.{Subthread, foot_of}
use Rattle.task_ast.specs.meaning.Table.{numbers}
use Rattle.dependence.specs.meaning.Conflict.{same_location, clash_in}
use Rattle.run_views.specs.declared.links.Link.{Link}
use Rattle.run_views.specs.declared.links.Link.TheVariants.{GoesOn, JoinsAfter, RunsIn, JoinsForked, Names}

-- what is looked at of a subthread
pub record Party : Type 0 where
  pub thread : ℕ
  pub begins : SyncOp
  pub child : Option ℕ
  pub foot : Footprint

abbrev pub party_of : Subthread → Party
party_of s = record { thread = s.thread; begins = s.begins.sync; child = s.child; foot = foot_of s }

-- the first of these positions that is below q and in conflict with it; positions that are redone stand in rising order, so it is the least
abbrev pub linked : List Party → (redo : List ℕ) → (q : ℕ) → Option ℕ
linked parties redo q = find (λ r. nat_lt r q && clash_in (map (λ (p : Party). p.foot) parties) r q) redo

-- whether a synchronisation is a join of the thread
abbrev pub joins : SyncOp → (thread : ℕ) → Bool
joins (sync.Join (pos joined)) thread = nat_eq joined thread
joins begins thread = false

-- whether the record cell stands among these locations
abbrev pub has_cell : List Loc → (cell : ℕ) → Bool
has_cell locations cell = list_any (same_location (Rec cell)) locations

-- whether both name the record cell, and one of them writes it
abbrev pub is_shared : (first second : Footprint) → (cell : ℕ) → Bool
is_shared first second cell =
    has_cell first.writes cell && (has_cell second.writes cell || has_cell second.reads cell) || has_cell first.reads cell
    && has_cell second.writes cell

-- the least such cell, where there are so many record cells
abbrev pub shared_cell : (cells : ℕ) → (first second : Footprint) → Option ℕ
shared_cell cells first second = find (is_shared first second) (numbers 0 cells)

-- the link to an earlier subthread of another thread that is not joined: the later one runs in the child of that, joins that child, or both
-- name a cell
abbrev pub link_by : (cells : ℕ) → (later earlier : Party) → (child : Option ℕ) → Link
link_by cells later earlier None = Names (shared_cell cells later.foot earlier.foot)
link_by cells later earlier (Some child) =
    cond (nat_eq child later.thread) (RunsIn child)
    (cond (joins later.begins child) (JoinsForked child) (Names (shared_cell cells later.foot earlier.foot)))

-- the first that fits: the later one goes on in the same thread, joins the thread of the earlier one, or is linked to it as said above
abbrev pub link_of : (cells : ℕ) → (later earlier : Party) → Link
link_of cells later earlier =
    cond (nat_eq later.thread earlier.thread) (GoesOn earlier.thread)
    (cond (joins later.begins earlier.thread) (JoinsAfter earlier.thread) (link_by cells later earlier earlier.child))
