-- What flat code does, one instruction at a time.
use Rattle.std.specs.Prelude.{ℕ, zero, suc, ℤ, pos, negsuc, ◌+◌, ◌-◌, List, [], ◌∷◌, map, length, Option, Some, None, unwrap_or, option_map, option_and_then, neg_ℤ, slice_get, slice_set}
use Rattle.std.specs.Int.{int_wrap, w64}
use Rattle.gp_base.specs.meaning.Feeds.{rows_in}
use Rattle.gp_base.specs.declared.feed.Feed.{Feed}
use Rattle.gp_base.specs.declared.numbers.At as numbers
use Rattle.task_ast.specs.declared.sync.SyncOp.{SyncOp}
use Rattle.task_ast.specs.declared.sync.SyncOp.TheVariants as sync
use Rattle.task_ast.specs.meaning.Tree.{Program}
use Rattle.task_ast.specs.meaning.Names.{place}
use Rattle.task_ast.specs.Names.{seconds}
use Rattle.task_ast.specs.meaning.State.{number_at}
use Rattle.task_ast.specs.meaning.Value.{truth, is_zero, operate_on, cell_in}
use Rattle.task_ast.specs.meaning.Action.{OfRegisters, Action, Set, Load, Store, Say, Choose, Child, Give, Bring, Arm, NoAction, OneAction}
use Rattle.task_ast.specs.meaning.Body.{Step, Silent, Iteration, Act, Stop, Body, body}
use Rattle.task_ast.specs.meaning.Control.{all_of}
use Rattle.task_ast.specs.meaning.Plain.{task_at, start_point}
use Rattle.task_ast.specs.Plain.{Machine}
use Rattle.lock_checker.specs.declared.cells.CellRange.{CellRange}
use Rattle.task_code.specs.declared.instrs.CellIndex.{CellIndex}
use Rattle.task_code.specs.declared.instrs.CellIndex.TheVariants.{Number, Variable}
use Rattle.task_code.specs.Instructions.{Calc, Const, Ctl, Reg, Me, Rows, Cell, Neg, Not, Chain, NoValue, Operands, NoOperands, Operand, Deed, SetReg, Read, Write, Print, When, Deeds, NoDeeds, Also, Forking, Does, Assign, GoOn, Unless, Again, Lock, Unlock, Fork, Join, Barrier, Settle, Do, Instr, At, Lowered}

-- what an expression of code is read under: the control variables, the registers, the thread's number, the feeds in declared order
pub record CalcEnv : Type 0 where
  pub ctl : List ℤ
  pub registers : List ℤ
  pub me : ℕ
  pub feeds : List Feed

abbrev mutual
  -- the value of an expression; none where it names a cell outside its feed; the place of a cell is read without registers
  pub calc_value : Calc → CalcEnv → Option ℤ
  calc_value (Const v) env = Some v
  calc_value (Ctl k) env = Some (number_at env.ctl k)
  calc_value (Reg k) env = Some (number_at env.registers k)
  calc_value Me env = Some (pos env.me)
  calc_value (Rows f) env = Some (pos (unwrap_or (option_map rows_in (slice_get env.feeds f)) 0))
  calc_value (Cell f row field) env =
      let control = record env { registers = [] } in cell_in (slice_get env.feeds f) (calc_value row control) (calc_value field control)
  calc_value (Neg c) env = option_map (λ v. int_wrap w64 (neg_ℤ v)) (calc_value c env)
  calc_value (Not c) env = option_map (λ v. truth (is_zero v)) (calc_value c env)
  calc_value (Chain c more) env = calc_value_on more env (calc_value c env)
  calc_value NoValue env = None

  -- the value of a chain from here on, from the value so far
  pub calc_value_on : Operands → CalcEnv → Option ℤ → Option ℤ
  calc_value_on NoOperands env so_far = so_far
  calc_value_on (Operand op c more) env so_far = calc_value_on more env (operate_on op so_far (calc_value c env))

-- the value of an expression with its control values and cells looked up, from the registers
abbrev pub calc_of_registers : Calc → CalcEnv → Option OfRegisters
calc_of_registers c env = option_map (λ _ values. unwrap_or (calc_value c (record env { registers = values })) (pos 0)) (calc_value c env)

-- the number that an index stands for
abbrev pub index_at : CellIndex → List ℤ → ℤ
index_at (Number v) ctl = v
index_at (Variable k) ctl = number_at ctl k

-- the number of an array's cell, or none outside the array
abbrev pub cell_of : CellRange → ℤ → Option ℕ
cell_of cells index = option_map (λ n. cells.first + n) (place cells.size index)

abbrev mutual
  -- the action of a data statement
  pub deed_action : Deed → CalcEnv → Option Action
  deed_action (SetReg k c) env = option_map (Set k) (calc_of_registers c env)
  deed_action (Read cells i k) env = option_map (λ n. Load n k) (cell_of cells (index_at i env.ctl))
  deed_action (Write cells i c) env = option_and_then (λ n. option_map (Store n) (calc_of_registers c env)) (cell_of cells (index_at i env.ctl))
  deed_action (Print cs) env = option_map Say (all_of (map (λ c. calc_of_registers c env) cs))
  deed_action (When c a b) env =
      option_and_then (λ t. option_and_then (λ x. option_map (Choose t x) (deeds_arm b env)) (deeds_arm a env)) (calc_of_registers c env)

  -- the actions of an arm
  pub deeds_arm : Deeds → CalcEnv → Option Arm
  deeds_arm NoDeeds env = Some NoAction
  deeds_arm (Also d more) env = option_and_then (λ x. option_map (OneAction x) (deeds_arm more env)) (deed_action d env)

-- the action that gives a child one of its data arguments
abbrev pub gift_action : ℕ × Calc → CalcEnv → Option Action
gift_action g env = option_map (Give g.0) (calc_of_registers g.1 env)

-- the arguments of a fork: the control values, and the actions that make the child's registers
abbrev pub fork_arguments : Forking → CalcEnv → Option (List ℤ × List Action)
fork_arguments f env =
    option_and_then (λ values. option_map (λ actions. (values, Child f.registers ∷ actions))
    (all_of (map (λ g. gift_action g env) f.gifts)))
    (all_of (map (λ c. calc_value c env) f.controls))

-- where a thread stands in code: at an instruction of its task, with its control variables and its number
pub record Place : Type 0 where
  pub at : numbers.At
  pub ctl : List ℤ
  pub me : ℕ

-- the place at another instruction of the task
abbrev pub goto : Place → ℕ → Place
goto q pc = record q { at = record { task = q.at.task; pc = pc } }

-- the place after this instruction
abbrev pub next_place : Place → Place
next_place q = goto q (q.at.pc + 1)

-- a stop before the synchronisation of a line
abbrev pub halt : SyncOp → ℕ → Step Place
halt op line = Stop (record { sync = op; line = line })

-- goes on with a value, or stops at an index fault
abbrev pub given_value : {A : Type 0} → ℕ → Option A → (A → Step Place) → Step Place
given_value line None go = halt sync.BadIndex line
given_value line (Some v) go = go v

-- the first unless the value is 0
abbrev pub either : ℤ → Step Place → Step Place → Step Place
either (pos zero) first second = second
either (pos (suc n)) first second = first
either (negsuc n) first second = first

-- sets the control variable of this number to a forked child's number
abbrev pub with_child : Option ℕ → (into : Option ℕ) → Place → Place
with_child (Some c) (Some k) q = record q { ctl = slice_set q.ctl k (pos c) }
with_child _ _ q = q

module _ (feeds : List Feed) where
  -- what the expressions of a place are read under
  abbrev pub env_of : Place → CalcEnv
  env_of q = record { ctl = q.ctl; registers = []; me = q.me; feeds = feeds }

  -- the step at an instruction
  abbrev pub step_does : (line : ℕ) → Does → Place → Step Place
  step_does line (Assign k c) q =
      given_value line (calc_value c (env_of q)) (λ v. Silent (record (next_place q) { ctl = slice_set q.ctl k v }))
  step_does line (GoOn n) q = Silent (goto q (q.at.pc + 1 + n))
  step_does line (Unless c n) q =
      given_value line (calc_value c (env_of q)) (λ v. either v (Silent (next_place q)) (Silent (goto q (q.at.pc + 1 + n))))
  step_does line (Again c n) q =
      given_value line (calc_value c (env_of q)) (λ v. either v (Iteration (goto q (q.at.pc - n))) (Silent (next_place q)))
  step_does line (Lock cells i) q = given_value line (cell_of cells (index_at i q.ctl)) (λ l. halt (sync.Lock l) line)
  step_does line (Unlock cells i) q = given_value line (cell_of cells (index_at i q.ctl)) (λ l. halt (sync.Unlock l) line)
  step_does line (Fork f) q = given_value line (fork_arguments f (env_of q)) (λ arguments. halt (sync.Fork f.task arguments.0) line)
  step_does line (Join c into) q = given_value line (calc_value c (env_of q)) (λ h. halt (sync.Join h) line)
  step_does line (Barrier b) q = halt (sync.Barrier b) line
  step_does line (Settle k c) q = halt (sync.Settle k c) line
  step_does line (Do d) q = given_value line (deed_action d (env_of q)) (λ a. Act a (next_place q))

  -- the step at an instruction that may be there; after the last one the task ends
  abbrev pub step_instr : Option Instr → Place → Step Place
  step_instr None q = halt sync.End 0
  step_instr (Some (At line d)) q = step_does line d q

  -- the actions of the synchronisation at an instruction, with which the next subthread begins
  abbrev pub begin_actions : Option Instr → Place → List Action
  begin_actions (Some (At line (Fork f))) q = unwrap_or (option_map (λ arguments. arguments.1) (fork_arguments f (env_of q))) []
  begin_actions (Some (At line (Join c (Some k)))) q = Bring k ∷ []
  begin_actions _ q = []

-- how many instructions the jump at the end of a choice's first side passes
abbrev pub passed : Option Instr → ℕ
passed (Some (At line (GoOn n))) = n
passed _ = 0

module _ (tasks : List (List Instr)) where
  -- the instructions of the task of this number
  abbrev pub instrs_of : (task : ℕ) → List Instr
  instrs_of k = unwrap_or (slice_get tasks k) []

  -- the instruction at this number of the place's task
  abbrev pub instr_at : Place → (pc : ℕ) → Option Instr
  instr_at q pc = slice_get (instrs_of q.at.task) pc

  -- after the statement at an instruction, which may be a choice as a whole; a fork's variable then holds the child's number
  abbrev pub behind : Option Instr → (child : Option ℕ) → Place → Place
  behind None child q = q
  behind (Some (At line (Fork f))) child q = with_child child f.into (next_place q)
  behind (Some (At line (Unless c n))) child q = goto q (q.at.pc + 1 + n + passed (instr_at q (q.at.pc + n)))
  behind (Some i) child q = next_place q

  -- the place at which a subthread begins
  abbrev pub code_begins : SyncOp → (child : Option ℕ) → Place → Place
  code_begins sync.Start child q = q
  code_begins _ child q = behind (instr_at q q.at.pc) child q

  -- silent jumps go forward, so this falls
  abbrev pub code_size : Place → ℕ
  code_size q = length (instrs_of q.at.task) - q.at.pc

  module _ (feeds : List Feed) where
    -- the control step
    abbrev pub code_step : Place → Step Place
    code_step q = step_instr feeds (instr_at q q.at.pc) q

    -- the body from a place
    abbrev pub code_body : (turns : ℕ) → Place → Body Place
    code_body turns q = body code_step code_size turns q

    -- the actions with which a subthread begins
    abbrev pub code_first : SyncOp → Place → List Action
    code_first sync.Start q = []
    code_first _ q = begin_actions feeds (instr_at q q.at.pc) q

-- the place at which a thread of the task of this number starts, with the values of its control parameters
abbrev pub start_place : Program → (task thread : ℕ) → (arguments : List ℤ) → Place
start_place program task me arguments =
    record { at = record { task = task; pc = 0 }; ctl = seconds (start_point (task_at program task) me arguments).names; me = me }

-- the places of code
abbrev pub code_machine : Lowered → List Feed → (turns : ℕ) → Machine Place
code_machine code feeds turns =
    record {
      bodies = code_body code.tasks feeds turns;
      begins = code_begins code.tasks;
      first = code_first code.tasks feeds;
      starts = start_place code.program;
      sets = λ control v q. record q { ctl = slice_set q.ctl control v };
    }
