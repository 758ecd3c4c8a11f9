-- What a restart needs and notes.
use Rattle.std.specs.Prelude.{◌≡◌, ℕ, ◌-◌, ◌≤◌, ◌<◌, List, length, Option, Some, None}
use Rattle.gp_base.specs.declared.journal.Event.{Event}
use Rattle.gp_base.specs.declared.journal.Event.TheVariants as event
use Rattle.gp_base.specs.declared.journal.Restart.{Restart}
use Rattle.gp_base.specs.Reserved.{Reserved}
use Rattle.task_ast.specs.meaning.Table.{numbers}
use Rattle.dependence.specs.meaning.Dependents.{is_member}
use Rattle.reorder_list.specs.declared.entry.Entry.{Entry}
use Rattle.reorder_list.specs.Entries.{with_change, raised_entry}
use Rattle.whole_run.specs.View.{View, now}
use Rattle.whole_run.specs.Gives.{Did}

-- there is room for an event, for a restart, and for so many positions
pub record HasRooms (most : ℕ) (events : Reserved Event) (restarts : Reserved Restart) (redo : Reserved ℕ) : Type 0 where
  pub event : 0 < events.spare
  pub restart : 0 < restarts.spare
  pub positions : most ≤ redo.spare

-- each position from the cut on below the front is redone, and its entry is raised
pub record RaisesFrom (cut front : ℕ) (before after : List Entry) (redo : List ℕ) : Type 0 where
  pub redone : redo ≡ numbers cut (front - cut)
  pub entries : after ≡ with_change (λ q. is_member q redo) (raised_entry front) before

-- the restart that comes next was made
abbrev pub DidRestart : (before after : View) → Type 0
DidRestart before after = Did before (event.Restart (length (now before).progress.made)) after

-- the attempt of an entry, or 0
abbrev pub attempt_in : Option Entry → ℕ
attempt_in None = 0
attempt_in (Some e) = e.attempt
