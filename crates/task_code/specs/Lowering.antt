-- The flat code of a program.
use Rattle.std.specs.Prelude.{ℕ, pos, ◌+◌, List, [], ◌∷◌, ◌++◌, map, length, Option, Some, None, unwrap_or, option_map, position}
use Rattle.task_ast.specs.declared.tree.Atom.{Atom}
use Rattle.task_ast.specs.declared.tree.Atom.TheVariants as atom
use Rattle.task_ast.specs.declared.tree.Param.{Param}
use Rattle.task_ast.specs.declared.tree.Param.TheVariants as param
use Rattle.task_ast.specs.meaning.Tree as tree
use Rattle.task_ast.specs.meaning.Tree.{Name, Expr, Links, What, Stmt, Block, TaskText, Program}
use Rattle.task_ast.specs.meaning.Names.{is_name, slot, locks_of, records_of, barriers_of, feeds_of, controls_of, registers_of, task_named, task_number}
use Rattle.lock_checker.specs.Cells.{cells_of}
use Rattle.task_code.specs.declared.instrs.CellIndex.{CellIndex}
use Rattle.task_code.specs.declared.instrs.CellIndex.TheVariants.{Number, Variable}
use Rattle.task_code.specs.Instructions.{Calc, Const, Ctl, Reg, Me, Rows, Cell, Neg, Not, Chain, NoValue, Operands, NoOperands, Operand, Deed, SetReg, Read, Write, Print, When, Deeds, NoDeeds, Also, Forking, Does, Assign, GoOn, Unless, Again, Lock, Unlock, Fork, Join, Barrier, Settle, Do, Instr, At, Lowered}

-- the register of this number, or 0 where there is none
abbrev pub register_calc : Option ℕ → Calc
register_calc (Some k) = Reg k
register_calc None = Const (pos 0)

-- the rows of the feed of this number, or 0 where there is none
abbrev pub rows_calc : Option ℕ → Calc
rows_calc (Some f) = Rows f
rows_calc None = Const (pos 0)

-- a cell of the feed of this number, or no value where there is none
abbrev pub cell_calc : Option ℕ → Calc → Calc → Calc
cell_calc (Some f) row field = Cell f row field
cell_calc None row field = NoValue

-- a statement that always ends at an index fault
abbrev pub no_deed : Deed
no_deed = SetReg 0 NoValue

-- the barrier of this number, or an index fault where there is none
abbrev pub barrier_code : Option ℕ → Does
barrier_code (Some b) = Barrier b
barrier_code None = Do no_deed

-- a choice: a jump past the first side and the jump at its end, the first side, a jump past the second side, the second side
abbrev pub if_code : (line : ℕ) → Calc → List Instr → List Instr → List Instr
if_code line c a b = At line (Unless c (length a + 1)) ∷ (a ++ At line (GoOn (length b)) ∷ b)

-- a loop: a jump to the test, the body, and the test, which leads back to the body
abbrev pub while_code : (line : ℕ) → Calc → List Instr → List Instr
while_code line c b = At line (GoOn (length b)) ∷ (b ++ At line (Again c (length b)) ∷ [])

-- what the statements of a task are lowered under: the program, and the names of the task's control variables and registers
pub record Scope : Type 0 where
  pub program : Program
  pub controls : List Name
  pub registers : List Name

module _ (s : Scope) where
  abbrev mutual
    pub calc : Expr → Calc
    calc (tree.Num v) = Const v
    calc (tree.Ctl x) = Ctl (slot s.controls x)
    calc (tree.Reg x) = register_calc (position (is_name x) s.registers)
    calc tree.Me = Me
    calc (tree.Rows f) = rows_calc (position (is_name f) (feeds_of s.program.heads))
    calc (tree.Cell f row field) = cell_calc (position (is_name f) (feeds_of s.program.heads)) (calc row) (calc field)
    calc (tree.Neg e) = Neg (calc e)
    calc (tree.Not e) = Not (calc e)
    calc (tree.Chain e links) = Chain (calc e) (operands_of links)

    -- the further members of a chain
    pub operands_of : Links → Operands
    operands_of tree.NoLinks = NoOperands
    operands_of (tree.Link op e links) = Operand op (calc e) (operands_of links)

  abbrev pub calcs : List Expr → List Calc
  calcs es = map calc es

  abbrev pub index : Atom → CellIndex
  index (atom.Num v) = Number v
  index (atom.Var x) = Variable (slot s.controls x)

  abbrev mutual
    -- a data statement; a control statement, which stands in no `when`, would end at an index fault there
    pub deed : What → Deed
    deed (tree.SetReg x e) = SetReg (slot s.registers x) (calc e)
    deed (tree.Read r i x) = Read (cells_of (records_of s.program.heads) r) (index i) (slot s.registers x)
    deed (tree.Write r i e) = Write (cells_of (records_of s.program.heads) r) (index i) (calc e)
    deed (tree.Print es) = Print (calcs es)
    deed (tree.When e a b) = When (calc e) (arm a) (arm b)
    deed _ = no_deed

    -- the arm of a `when`
    pub arm : Block → Deeds
    arm tree.Nothing = NoDeeds
    arm (tree.Then st b) = Also (deed_in st) (arm b)

    pub deed_in : Stmt → Deed
    deed_in (tree.At line w) = deed w

  -- the control arguments of a fork of a task with these parameters
  abbrev pub control_calcs : List Param → List Expr → List Calc
  control_calcs (param.Ctl x ∷ params) (e ∷ es) = calc e ∷ control_calcs params es
  control_calcs (param.Reg x ∷ params) (e ∷ es) = control_calcs params es
  control_calcs _ _ = []

  -- the data arguments, beside their registers; the registers of the new task have the names in `given`
  abbrev pub gifts : (given : List Name) → List Param → List Expr → List (ℕ × Calc)
  gifts given (param.Ctl x ∷ params) (e ∷ es) = gifts given params es
  gifts given (param.Reg x ∷ params) (e ∷ es) = (slot given x, calc e) ∷ gifts given params es
  gifts given _ _ = []

  -- a fork of this task, which has this number; of no task, it would end at an index fault
  abbrev pub forking : Option TaskText → (number : ℕ) → List Expr → (into : Option ℕ) → Forking
  forking (Some task) k es into =
      record {
        task = k;
        registers = length (registers_of task);
        controls = control_calcs task.params es;
        gifts = gifts (registers_of task) task.params es;
        into = into;
      }
  forking None k es into = record { task = k; registers = 0; controls = NoValue ∷ []; gifts = []; into = into }

  abbrev mutual
    pub what_code : (line : ℕ) → What → List Instr
    what_code line (tree.SetCtl x e) = At line (Assign (slot s.controls x) (calc e)) ∷ []
    what_code line (tree.While e b) = while_code line (calc e) (block_code b)
    what_code line (tree.If e a b) = if_code line (calc e) (block_code a) (block_code b)
    what_code line (tree.Lock a i) = At line (Lock (cells_of (locks_of s.program.heads) a) (index i)) ∷ []
    what_code line (tree.Unlock a i) = At line (Unlock (cells_of (locks_of s.program.heads) a) (index i)) ∷ []
    what_code line (tree.Fork t es x) =
        At line (Fork (forking (task_named s.program t) (unwrap_or (task_number s.program t) 0) es (option_map (slot s.controls) x))) ∷ []
    what_code line (tree.Join e x) = At line (Join (calc e) (option_map (slot s.registers) x)) ∷ []
    what_code line (tree.Barrier b) = At line (barrier_code (position (λ other. is_name b other.0) (barriers_of s.program.heads))) ∷ []
    what_code line (tree.Settle x c) = At line (Settle (slot s.registers x) (slot s.controls c)) ∷ []
    what_code line w = At line (Do (deed w)) ∷ []

    pub block_code : Block → List Instr
    block_code tree.Nothing = []
    block_code (tree.Then st b) = stmt_code st ++ block_code b

    pub stmt_code : Stmt → List Instr
    stmt_code (tree.At line w) = what_code line w

abbrev pub scope_of : Program → TaskText → Scope
scope_of program task = record { program = program; controls = controls_of task; registers = registers_of task }

-- the instructions of a task
abbrev pub task_code : Program → TaskText → List Instr
task_code program task = block_code (scope_of program task) task.body

-- the code of a program
abbrev pub lowered : Program → Lowered
lowered program = record { program = program; tasks = map (task_code program) program.tasks }
