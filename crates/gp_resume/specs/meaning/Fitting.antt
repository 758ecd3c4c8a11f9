-- Which rows fit a program: its threads take their turns as the control of the program has it, where the data are what the rows say.
use Rattle.std.specs.Prelude.{◌≡◌, ⊤, ℕ, ℤ, pos, ◌≤ℤ◌, List, [], ◌∷◌, length, map, codes, All, Option, Some, None, option_map, IsTrue}
use Rattle.std.specs.Ordering.{nat_cmp}
use Rattle.std.specs.FinMap.{is_sorted}
use Rattle.gp_base.specs.declared.limits.Limits.{Limits}
use Rattle.gp_base.specs.declared.feed.Inputs.{Inputs}
use Rattle.gp_base.specs.declared.ending.End.{End}
use Rattle.task_ast.specs.declared.sync.SyncOp.{SyncOp}
use Rattle.task_ast.specs.declared.sync.SyncOp.TheVariants as sync
use Rattle.task_ast.specs.declared.effect.Effect.{Effect}
use Rattle.task_ast.specs.meaning.Tree.{Program}
use Rattle.task_ast.specs.meaning.Names.{natural, registers_of}
use Rattle.task_ast.specs.meaning.State.{State, RegistersOf}
use Rattle.task_ast.specs.meaning.Effect.{after}
use Rattle.task_ast.specs.meaning.Layout.{layout}
use Rattle.task_ast.specs.meaning.Under.{is_under}
use Rattle.task_ast.specs.meaning.Repeat.{Move, Goes, Ends}
use Rattle.task_ast.specs.meaning.Plain.{Subthread, task_at}
use Rattle.task_ast.specs.meaning.Run.{Run, plain_opening, plain_move}
use Rattle.retirement_log.specs.meaning.Rows.{Retirement}

-- the cells that a row names, each with its value
abbrev pub writes_in : Retirement → List (ℕ × ℤ)
writes_in row = map (λ cell. (natural cell.0, cell.1)) row.cells

-- what a row says that a subthread left, but for its lines
abbrev pub left_by : Retirement → (thread : ℕ) → (child : Option ℕ) → Effect
left_by row t child =
    record { thread = t; writes = writes_in row; regs = row.regs; child = option_map (λ c. (c, row.child)) child; prints = [] }

-- how many registers a subthread that begins so gives to a child; where it forks none, there are none
abbrev pub child_size : Program → SyncOp → ℕ
child_size program (sync.Fork task arguments) = length (registers_of (task_at program task))
child_size program _ = 0

-- the number of a cell that stands under one of these lock cells, from the cells under each
abbrev pub StandsUnder : List (List ℕ) → (held : List ℕ) → ℤ → Type 0
StandsUnder under held cell = (c : ℕ) × (cell ≡ pos c) × IsTrue (is_under under held c)

-- the bytes of the text up to a row's lines are no fewer than up to those of the row before, or than those of the first line of the text
abbrev pub least_bytes : (before : Option Retirement) → ℤ
least_bytes None = pos (length (codes "output\n"))
least_bytes (Some row) = row.bytes

-- a row may be that of this subthread, which comes after so many and finds these data
pub record FitsIssue (program : Program) (issued : ℕ) (state : State) (s : Subthread) (before : Option Retirement)
    (row : Retirement) : Type 0 where
  pub position : row.position ≡ pos issued
  pub registers : length row.regs ≡ length (state (RegistersOf s.thread))
  pub child : length row.child ≡ child_size program s.begins.sync
  pub cells_held : All (λ (cell : ℤ × ℤ). StandsUnder (layout program.heads).under s.held cell.0) row.cells
  pub cells_rise : IsTrue (is_sorted nat_cmp (writes_in row))
  pub bytes : least_bytes before ≤ℤ row.bytes

-- a row may be that of the subthread with which the run goes on; none is where it has ended
abbrev pub FitsMove : Program → Run → Move Run Subthread End → (before : Option Retirement) → Retirement → Type 0
FitsMove program x (Goes s y) before row = FitsIssue program x.issued x.state s before row
FitsMove program x (Ends end) before row = ⊥

-- the run after a row: it stands where the move leads, but for the data, which are what the row says
abbrev pub led_by : Run → Retirement → Move Run Subthread End → Run
led_by x row (Goes s y) = record y { state = after (left_by row s.thread s.child) x.state }
led_by x row (Ends end) = x

module _ (program : Program) (inputs : Inputs) (limits : Limits) where
  -- the run after one row
  abbrev pub replayed : Run → Retirement → Run
  replayed x row = led_by x row (plain_move program inputs limits x)

  -- the run after these rows
  abbrev pub run_after : Run → List Retirement → Run
  run_after x [] = x
  run_after x (row ∷ rows) = run_after (replayed x row) rows

  -- each row fits after those before it
  abbrev pub FitFrom : Run → (before : Option Retirement) → List Retirement → Type 0
  FitFrom x before [] = ⊤
  FitFrom x before (row ∷ rows) = FitsMove program x (plain_move program inputs limits x) before row × FitFrom (replayed x row) (Some row) rows

  -- the rows fit from the start of the run on
  abbrev pub Fit : List Retirement → Type 0
  Fit rows = FitFrom (plain_opening program inputs limits) None rows

  -- the run that the rows leave
  abbrev pub resumed_at : List Retirement → Run
  resumed_at rows = run_after (plain_opening program inputs limits) rows
