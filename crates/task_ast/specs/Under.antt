-- Subthreads that name only record cells under the locks that they hold.
use Rattle.std.specs.Prelude.{◌≡◌, ℕ, List, Some, slice_get}
use Rattle.task_ast.specs.laws.Keeps.{AllName}
use Rattle.task_ast.specs.meaning.Plain.{Subthread}
use Rattle.task_ast.specs.meaning.Under.{is_under}

-- the subthread's actions name only record cells under the lock cells that it holds
abbrev pub KeepsToLocks : List (List ℕ) → Subthread → Type 0
KeepsToLocks under s = AllName (is_under under s.held) s.actions

-- so does each subthread of a run
abbrev pub NamesHeld : List (List ℕ) → List Subthread → Type 0
NamesHeld under run = (p : ℕ) (s : Subthread) → slice_get run p ≡ Some s → KeepsToLocks under s
