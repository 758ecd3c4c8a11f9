-- How the plain run ends.
use Rattle.std.specs.Prelude.{◌≡◌, ℕ, ◌+◌, ◌<◌, ◌≤◌, Some, length}
use Rattle.gp_base.specs.declared.limits.Limits.{Limits}
use Rattle.gp_base.specs.declared.feed.Inputs.{Inputs}
use Rattle.gp_base.specs.declared.ending.End.{End}
use Rattle.task_ast.specs.declared.sync.Next.{Next}
use Rattle.task_ast.specs.meaning.Tree.{Program}
use Rattle.task_ast.specs.meaning.Repeat.{steps, state_after}
use Rattle.task_ast.specs.Table.{Table, next_of}
use Rattle.task_ast.specs.Turn.{Ended, next_issue}
use Rattle.task_ast.specs.Reached.{Reached}
use Rattle.task_ast.specs.Plain.{Plain, opening, move, order, last_state}

-- a table of which all is known: no more was issued than its limit says, and each thread's next synchronisation is there
pub record IsWhole (table : Table) : Type 0 where
  pub within : table.issued ≤ table.limit
  pub known : (t : ℕ) → t < length table.seats → (next : Next) × (next_of table t ≡ Some next)

-- the plain run comes to an end by its rules: its turns never meet an unknown synchronisation, and the limit stops it
abbrev pub EndLaw : Type 0
EndLaw =
    (program : Program) (inputs : Inputs) (limits : Limits)
    → (ending : End) × (next_issue (last_state program inputs limits).table ≡ Ended ending)

-- it has at most as many subthreads as the limit says
abbrev pub CountLaw : Type 0
CountLaw = (program : Program) (inputs : Inputs) (limits : Limits) → length (order program inputs limits) ≤ limits.subthreads

-- its tables are those that turns lead to
abbrev pub TablesLaw : Type 0
TablesLaw =
    (program : Program) (inputs : Inputs) (limits : Limits) (n : ℕ)
    → Reached (state_after (move program inputs limits) n (opening program inputs limits)).table

-- and all of them is known
abbrev pub WholeLaw : Type 0
WholeLaw =
    (program : Program) (inputs : Inputs) (limits : Limits) (n : ℕ)
    → IsWhole (state_after (move program inputs limits) n (opening program inputs limits)).table

-- a run from any table that turns lead to and of which all is known ends likewise, within as many steps as its limit leaves
abbrev pub EndFromLaw : Type 0
EndFromLaw =
    (program : Program) (inputs : Inputs) (limits : Limits) (n : ℕ) (start : Plain) → Reached start.table → IsWhole start.table
    → start.table.limit < n + start.table.issued
    → (ending : End) × (next_issue (state_after (move program inputs limits) n start).table ≡ Ended ending)

-- it goes on with at most as many subthreads as its limit leaves
abbrev pub CountFromLaw : Type 0
CountFromLaw =
    (program : Program) (inputs : Inputs) (limits : Limits) (n : ℕ) (start : Plain) → Reached start.table → IsWhole start.table
    → length (steps (move program inputs limits) n start) + start.table.issued ≤ start.table.limit

-- and its tables are again such
abbrev pub TablesFromLaw : Type 0
TablesFromLaw =
    (program : Program) (inputs : Inputs) (limits : Limits) (n : ℕ) (start : Plain) → Reached start.table → IsWhole start.table
    → Reached (state_after (move program inputs limits) n start).table × IsWhole (state_after (move program inputs limits) n start).table
