-- Code names only variables that exist.
use Rattle.std.specs.Prelude.{◌≡◌, ⊤, ℕ, ◌<◌, List, [], ◌∷◌, Option, Some, None, slice_get, length}
use Rattle.task_ast.specs.meaning.Tree.{TaskText}
use Rattle.task_ast.specs.meaning.Names.{controls, controls_of, registers_of}
use Rattle.task_code.specs.declared.instrs.CellIndex.{CellIndex}
use Rattle.task_code.specs.declared.instrs.CellIndex.TheVariants.{Number, Variable}
use Rattle.task_code.specs.declared.instrs.Shape.{Shape}
use Rattle.task_code.specs.Instructions.{Calc, Const, Ctl, Reg, Me, Rows, Cell, Neg, Not, Chain, NoValue, Operands, NoOperands, Operand, Deed, SetReg, Read, Write, Print, When, Deeds, NoDeeds, Also, Does, Assign, GoOn, Unless, Again, Lock, Unlock, Fork, Join, Barrier, Settle, Do, Instr, At}

-- how many control variables and registers a task has
abbrev pub shape_of : TaskText → Shape
shape_of task = record { ctl = length (controls_of task); regs = length (registers_of task) }

-- how many control parameters a task has
abbrev pub params_of : TaskText → ℕ
params_of task = length (controls task.params)

-- a variable that may be left out is among so many
abbrev pub IntoExists : ℕ → Option ℕ → Type 0
IntoExists count None = ⊤
IntoExists count (Some k) = k < count

module _ (shape : Shape) where
  abbrev mutual
    -- the variables of an expression
    pub CalcExists : Calc → Type 0
    CalcExists (Const v) = ⊤
    CalcExists (Ctl k) = k < shape.ctl
    CalcExists (Reg k) = k < shape.regs
    CalcExists Me = ⊤
    CalcExists (Rows f) = ⊤
    CalcExists (Cell f row field) = CalcExists row × CalcExists field
    CalcExists (Neg c) = CalcExists c
    CalcExists (Not c) = CalcExists c
    CalcExists (Chain c more) = CalcExists c × OperandsExist more
    CalcExists NoValue = ⊤

    pub OperandsExist : Operands → Type 0
    OperandsExist NoOperands = ⊤
    OperandsExist (Operand op c more) = CalcExists c × OperandsExist more

  abbrev pub CalcsExist : List Calc → Type 0
  CalcsExist [] = ⊤
  CalcsExist (c ∷ cs) = CalcExists c × CalcsExist cs

  -- the data arguments of a fork, whose task has so many registers
  abbrev pub GiftsExist : (registers : ℕ) → List (ℕ × Calc) → Type 0
  GiftsExist registers [] = ⊤
  GiftsExist registers (g ∷ gifts) = (g.0 < registers) × CalcExists g.1 × GiftsExist registers gifts

  abbrev pub IndexExists : CellIndex → Type 0
  IndexExists (Number v) = ⊤
  IndexExists (Variable k) = k < shape.ctl

  abbrev mutual
    -- the variables of a data statement
    pub DeedExists : Deed → Type 0
    DeedExists (SetReg k c) = (k < shape.regs) × CalcExists c
    DeedExists (Read cells i k) = IndexExists i × (k < shape.regs)
    DeedExists (Write cells i c) = IndexExists i × CalcExists c
    DeedExists (Print cs) = CalcsExist cs
    DeedExists (When c a b) = CalcExists c × DeedsExist a × DeedsExist b

    pub DeedsExist : Deeds → Type 0
    DeedsExist NoDeeds = ⊤
    DeedsExist (Also d more) = DeedExists d × DeedsExist more

  -- the variables of an instruction
  abbrev pub DoesExists : Does → Type 0
  DoesExists (Assign k c) = (k < shape.ctl) × CalcExists c
  DoesExists (GoOn n) = ⊤
  DoesExists (Unless c n) = CalcExists c
  DoesExists (Again c n) = CalcExists c
  DoesExists (Lock cells i) = IndexExists i
  DoesExists (Unlock cells i) = IndexExists i
  DoesExists (Fork f) = CalcsExist f.controls × GiftsExist f.registers f.gifts × IntoExists shape.ctl f.into
  DoesExists (Join c into) = CalcExists c × IntoExists shape.regs into
  DoesExists (Barrier b) = ⊤
  DoesExists (Settle k c) = (k < shape.regs) × (c < shape.ctl)
  DoesExists (Do d) = DeedExists d

  -- each variable that an instruction names is one of the task's
  abbrev pub VariablesExist : List Instr → Type 0
  VariablesExist code = (pc line : ℕ) (does : Does) → slice_get code pc ≡ Some (At line does) → DoesExists does
