-- Flat code as definitions see it: that of the code without boxes.
use Rattle.std.specs.Prelude.{ℕ, ℤ, List, [], ◌∷◌, Option}
use Rattle.task_ast.specs.declared.tree.Op.{Op}
use Rattle.task_ast.specs.meaning.Tree.{Program}
use Rattle.lock_checker.specs.declared.cells.CellRange.{CellRange}
use Rattle.task_code.specs.declared.instrs.CellIndex.{CellIndex}

mutual
  -- an expression over numbered variables and feeds
  pub data Calc : Type 0 where
    Const : ℤ → Calc
    Ctl : ℕ → Calc
    Reg : ℕ → Calc
    Me : Calc
    Rows : ℕ → Calc
    Cell : (feed : ℕ) → (row field : Calc) → Calc
    Neg : Calc → Calc
    Not : Calc → Calc
    Chain : Calc → Operands → Calc
    NoValue : Calc

  -- the further members of a chain, each with the operator before it
  pub data Operands : Type 0 where
    NoOperands : Operands
    Operand : Op → Calc → Operands → Operands

mutual
  -- what a data statement does
  pub data Deed : Type 0 where
    SetReg : (register : ℕ) → Calc → Deed
    Read : CellRange → CellIndex → (register : ℕ) → Deed
    Write : CellRange → CellIndex → Calc → Deed
    Print : List Calc → Deed
    When : Calc → Deeds → Deeds → Deed

  -- the statements of one arm of a `when`
  pub data Deeds : Type 0 where
    NoDeeds : Deeds
    Also : Deed → Deeds → Deeds

-- what a fork begins
pub record Forking : Type 0 where
  pub task : ℕ
  pub registers : ℕ
  pub controls : List Calc
  pub gifts : List (ℕ × Calc)
  pub into : Option ℕ

-- what an instruction does; a jump says how many instructions it passes
pub data Does : Type 0 where
  Assign : (variable : ℕ) → Calc → Does
  GoOn : ℕ → Does
  Unless : Calc → ℕ → Does
  Again : Calc → ℕ → Does
  Lock : CellRange → CellIndex → Does
  Unlock : CellRange → CellIndex → Does
  Fork : Forking → Does
  Join : Calc → (into : Option ℕ) → Does
  Barrier : ℕ → Does
  Settle : (register control : ℕ) → Does
  Do : Deed → Does

-- an instruction, with the line of its statement
pub data Instr : Type 0 where
  At : (line : ℕ) → Does → Instr

-- the operands of a chain, from their list
abbrev pub operands : List (Op × Calc) → Operands
operands [] = NoOperands
operands (m ∷ others) = Operand m.0 m.1 (operands others)

-- the arm with these statements
abbrev pub deeds : List Deed → Deeds
deeds [] = NoDeeds
deeds (d ∷ left) = Also d (deeds left)

-- lowered code: the program, and the instructions of each task in text order
pub record Lowered : Type 0 where
  pub program : Program
  pub tasks : List (List Instr)
