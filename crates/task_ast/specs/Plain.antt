-- The plain run by the general turn, over any kind of points; what a subthread may touch by its locks, and what no thread changes.
use Rattle.task_ast.specs.meaning.Tree.{Program}
use Rattle.gp_base.specs.declared.limits.Limits.{Limits}
use Rattle.gp_base.specs.declared.feed.Inputs.{Inputs}
use Rattle.gp_base.specs.declared.footprint.Footprint.{Footprint}
use Rattle.task_ast.specs.meaning.Control.{Setting, Point, with_number, beginning, first_actions, tree_body}
use Rattle.task_ast.specs.Footprint.{lock_footprint}
use Rattle.task_ast.specs.meaning.Plain.{Subthread, setting_of, task_at, start_point, main_number, main_task, ending_of}
use Rattle.std.specs.Prelude.{ℕ, suc, ℤ, List, [], ◌∷◌, ◌++◌, length, replicate, map, Option, None, slice_get, slice_set, unwrap_or}
use Rattle.task_ast.specs.meaning.Names.{locks_of, records_of, barriers_of, cells_in, registers_of}
use Rattle.task_ast.specs.meaning.Action.{Action}
use Rattle.gp_base.specs.declared.ending.End.{End}
use Rattle.gp_base.specs.declared.ending.End.TheVariants.{Finished}
use Rattle.task_ast.specs.declared.sync.SyncOp.{SyncOp}
use Rattle.task_ast.specs.declared.sync.SyncOp.TheVariants as sync
use Rattle.task_ast.specs.declared.sync.Next.{Next}
use Rattle.task_ast.specs.meaning.Body.{Body}
use Rattle.task_ast.specs.meaning.State.{State, RegistersOf, number_at, opened, with_registers, cell_value}
use Rattle.task_ast.specs.meaning.Effect.{effect, after}
use Rattle.task_ast.specs.meaning.Repeat.{Move, Goes, Ends, steps, state_after}
use Rattle.task_ast.specs.meaning.Table.{numbers}
use Rattle.task_ast.specs.Table.{Table, new_seat, learning, owned}
use Rattle.task_ast.specs.Turn.{Turn, Issue, Needs, Ended, next_issue}

-- a thread table with the threads' points, of any kind, and the data
pub record PlainOf (P : Type 0) : Type 0 where
  pub table : Table
  pub points : List P
  pub state : State

-- what the plain run asks of a kind of points: bodies, where a subthread begins and with which actions, where a task starts, and the
-- point at which a control variable has another value
pub record Machine (P : Type 0) : Type 0 where
  pub bodies : P → Body P
  pub begins : SyncOp → Option ℕ → P → P
  pub first : SyncOp → P → List Action
  pub starts : (task thread : ℕ) → List ℤ → P
  pub sets : (control : ℕ) → ℤ → P → P

module _ {P : Type 0} (machine : Machine P) where
  -- a forked thread begins at the start of its task
  abbrev pub points_with : SyncOp → ℕ → List P → List P
  points_with (sync.Fork task arguments) c points = points ++ machine.starts task c arguments ∷ []
  points_with _ c points = points

  -- where a thread stands
  abbrev pub point_by : PlainOf P → (thread : ℕ) → P
  point_by before t = unwrap_or (slice_get before.points t) (machine.starts 0 t [])

  -- a settle first sets a control variable to the value that the register has in the state
  abbrev pub settled_by : SyncOp → (thread : ℕ) → State → P → P
  settled_by (sync.Settle register control) t state p = machine.sets control (number_at (state (RegistersOf t)) register) p
  settled_by _ t state p = p

  -- the point from which a thread begins so
  abbrev pub from_by : PlainOf P → SyncOp → (thread : ℕ) → P
  from_by before op t = settled_by op t before.state (point_by before t)

  -- the subthread of thread t, which begins so, in a table that doesn't know what comes after it
  abbrev pub performed_by : ℕ → Next → Option ℕ → Table → PlainOf P → Move (PlainOf P) Subthread End
  performed_by t begins child table before =
      let p = from_by before begins.sync t in
      let b = machine.bodies (machine.begins begins.sync child p) in
      let actions = machine.first begins.sync p ++ b.actions in
      let e = effect t begins.sync child actions before.state in
      Goes (record { thread = t; begins = begins; child = child; held = owned table t; actions = actions; lines = e.prints })
      (record {
        table = learning table t b.next;
        points = slice_set (points_with begins.sync (length before.points) before.points) t b.at;
        state = after e before.state;
      })

  -- what follows a turn of the thread table
  abbrev pub on_turn_by : PlainOf P → Turn → Move (PlainOf P) Subthread End
  on_turn_by before (Issue t begins child table) = performed_by t begins child table before
  on_turn_by before (Needs t) = Ends Finished
  on_turn_by before (Ended ending) = Ends ending

  -- the next subthread, or the end
  abbrev pub move_by : PlainOf P → Move (PlainOf P) Subthread End
  move_by before = on_turn_by before (next_issue before.table)

-- the run of a program over such points
module _ {P : Type 0} (machine : Machine P) (program : Program) (inputs : Inputs) (limits : Limits) where
  -- thread 0 at the start of `main`
  abbrev pub opening_by : PlainOf P
  opening_by =
      record {
        table = record {
          limit = limits.subthreads;
          barriers = map (λ b. b.1) (barriers_of program.heads);
          seats = new_seat ∷ [];
          owners = replicate (cells_in (locks_of program.heads)) None;
          token = None;
          issued = 0;
        };
        points = machine.starts (main_number program) 0 [] ∷ [];
        state = with_registers 0 (length (registers_of (main_task program))) (opened inputs.records);
      }

  -- each subthread in order; one step more than the limit finds the end
  abbrev pub order_by : List Subthread
  order_by = steps (move_by machine) (suc limits.subthreads) opening_by

  -- the state before the subthread at a position, or at the end where that comes before
  abbrev pub before_by : (position : ℕ) → PlainOf P
  before_by p = state_after (move_by machine) p opening_by

  -- the state when the run has ended
  abbrev pub last_by : PlainOf P
  last_by = before_by (suc limits.subthreads)

  -- how the run ends
  abbrev pub end_by : End
  end_by = ending_of (move_by machine last_by)

-- a run on the tree
abbrev pub Plain : Type 0
Plain = PlainOf Point

-- the points of the tree
abbrev pub tree_machine : Program → Inputs → Limits → Machine Point
tree_machine program inputs limits =
    record {
      bodies = tree_body (setting_of program inputs) limits.turns;
      begins = beginning;
      first = first_actions (setting_of program inputs);
      starts = λ task thread arguments. start_point (task_at program task) thread arguments;
      sets = λ control v p. record p { names = with_number p.names control v };
    }

module _ (program : Program) (inputs : Inputs) (limits : Limits) where
  -- what follows a turn of the thread table
  abbrev pub on_turn : Plain → Turn → Move Plain Subthread End
  on_turn before turn = on_turn_by (tree_machine program inputs limits) before turn

  -- the next subthread, or the end
  abbrev pub move : Plain → Move Plain Subthread End
  move before = on_turn before (next_issue before.table)

  -- thread 0 at the start of `main`
  abbrev pub opening : Plain
  opening = opening_by (tree_machine program inputs limits) program inputs limits

  -- each subthread in order
  abbrev pub order : List Subthread
  order = order_by (tree_machine program inputs limits) program inputs limits

  -- the state when the run has ended
  abbrev pub last_state : Plain
  last_state = last_by (tree_machine program inputs limits) program inputs limits

  -- how the run ends
  abbrev pub end : End
  end = end_by (tree_machine program inputs limits) program inputs limits

  -- the cells of all records at the end
  abbrev pub final_records : List ℤ
  final_records = map (cell_value last_state.state) (numbers 0 (cells_in (records_of program.heads)))

-- what it may touch by the locks that it holds
abbrev pub lock_foot_of : Subthread → Footprint
lock_foot_of s = lock_footprint s.thread s.begins.sync s.child s.held

module _ (program : Program) (inputs : Inputs) (limits : Limits) where
  -- what no thread of the run changes
  abbrev pub setting : Setting
  setting = setting_of program inputs
