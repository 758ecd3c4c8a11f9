-- Code that names only record cells below a number.
use Rattle.std.specs.Prelude.{◌≡◌, ℕ, ◌+◌, ◌≤◌, List, [], ◌∷◌, None, ⊤}
use Rattle.lock_checker.specs.declared.cells.CellRange.{CellRange}
use Rattle.task_code.specs.Flat.{code_of}
use Rattle.task_code.specs.Reading.{instrs_of}
use Rattle.subthread.specs.declared.task.Work.{Work}
use Rattle.subthread.specs.declared.task.Task.{Task}
use Rattle.subthread.specs.Tasks.{Fits}
use Rattle.task_code.specs.Instructions.{Deed, Read, Write, When, Deeds, NoDeeds, Also, Does, Do, Instr, At}

-- the cells of an array have numbers below this one
abbrev pub IsBelow : (most : ℕ) → CellRange → Type 0
IsBelow most cells = cells.first + cells.size ≤ most

abbrev mutual
  -- so have the cells of each array that a data statement names
  pub DeedBelow : (most : ℕ) → Deed → Type 0
  DeedBelow most (Read cells i k) = IsBelow most cells
  DeedBelow most (Write cells i c) = IsBelow most cells
  DeedBelow most (When c a b) = ArmBelow most a × ArmBelow most b
  DeedBelow most _ = ⊤

  pub ArmBelow : (most : ℕ) → Deeds → Type 0
  ArmBelow most NoDeeds = ⊤
  ArmBelow most (Also d more) = DeedBelow most d × ArmBelow most more

abbrev pub DoesBelow : (most : ℕ) → Does → Type 0
DoesBelow most (Do d) = DeedBelow most d
DoesBelow most _ = ⊤

-- and that each instruction names
abbrev pub AllBelow : (most : ℕ) → List Instr → Type 0
AllBelow most [] = ⊤
AllBelow most (At line d ∷ instrs) = DoesBelow most d × AllBelow most instrs

-- so does the code of a task of a work whose walks are made once
abbrev pub NamesBelow : (most : ℕ) → Work → (task : ℕ) → Type 0
NamesBelow most work task = (work.recheck ≡ None) × AllBelow most (instrs_of (code_of work.code).tasks task)

-- a task without bundles fits each work whose code for it names no cells
abbrev pub FitsWithoutCells : Task → Type 0
FitsWithoutCells task = (work : Work) → NamesBelow 0 work task.at.task → Fits work task
