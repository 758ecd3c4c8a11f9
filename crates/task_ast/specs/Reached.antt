-- The tables of a run, and when a deadlock is found.
use Rattle.std.specs.Prelude.{◌≡◌, ℕ, List, [], ◌∷◌, length, Option, Some, None}
use Rattle.task_ast.specs.declared.sync.Next.{Next}
use Rattle.task_ast.specs.meaning.Repeat.{More, Done}
use Rattle.std.specs.Prelude.{true}
use Rattle.std.specs.List.{list_all}
use Rattle.gp_base.specs.declared.ending.End.TheVariants.{Finished}
use Rattle.task_ast.specs.meaning.Table.{ring}
use Rattle.task_ast.specs.Table.{Table, new_seat, next_of, learning, all_passed, has_ended}
use Rattle.task_ast.specs.Turn.{Issue, Ended, To, look, has_passed, turn}

-- there is one thread, whose next synchronisation is this, and nothing was issued
abbrev pub start_table : (limit : ℕ) → (barriers : List ℕ) → (owners : List (Option ℕ)) → (main : Next) → Table
start_table limit barriers owners main =
    record {
      limit = limit;
      barriers = barriers;
      seats = record new_seat { next = Some main } ∷ [];
      owners = owners;
      token = None;
      issued = 0;
    }

-- the tables that turns, and synchronisations that become known, lead to from the start
pub data Reached : Table → Type 0 where
  at_start : {limit : ℕ} {barriers : List ℕ} {owners : List (Option ℕ)} {main : Next} → Reached (start_table limit barriers owners main)
  by_pass : {table after : Table} → Reached table → turn table ≡ More after → Reached after
  by_issue : {table after : Table} {t : ℕ} {next : Next} {child : Option ℕ} → Reached table → turn table ≡ Done (Issue t next child after)
      → Reached after
  by_learning : {table : Table} (t : ℕ) (next : Next) → Reached table → next_of table t ≡ None → Reached (learning table t next)

-- the thread that the token comes to has passed exactly where every thread that has not ended has passed
abbrev pub DeadlockLaw : Type 0
DeadlockLaw =
    (table : Table) → Reached table → (t : ℕ) (next : Next) → look table (ring table.token (length table.seats)) ≡ To t next
    → has_passed table t ≡ all_passed table

-- a run is finished only where every thread has ended
abbrev pub FinishedLaw : Type 0
FinishedLaw = (table : Table) → turn table ≡ Done (Ended Finished) → list_all has_ended table.seats ≡ true
