-- The view of code at each variant.
use Rattle.std.proofs.Common.{◌≡◌, ℕ, ℤ, List, Box, Global, ap, sym, ◌∙◌}
use Rattle.task_ast.specs.declared.tree.Op.{Op}
use Rattle.task_code.specs.Instructions as plain
use Rattle.task_code.specs.View.{calc_of, plain_calc, plain_operands, plain_calcs, deed_of, plain_deed, plain_arm}
use Rattle.lock_checker.specs.declared.cells.CellRange.{CellRange}
use Rattle.task_code.specs.declared.instrs.CellIndex.{CellIndex}
use Rattle.task_code.specs.declared.instrs.Calc.{Calc}
use Rattle.task_code.specs.declared.instrs.Calc.TheOpen as c
use Rattle.task_code.specs.declared.instrs.Calc.TheVariants.{Const, Ctl, Reg, Me, Rows, NoValue, rolls-Const, rolls-Ctl, rolls-Reg, rolls-Me, rolls-Rows, rolls-Cell, rolls-Neg, rolls-Not, rolls-Chain, rolls-NoValue}
use Rattle.task_code.specs.declared.instrs.Calc.TheViews.{roll-Calc, Cell, Neg, Not, Chain}
use Rattle.task_code.specs.declared.instrs.Calc.TheFolds.{map-Calc, fold-roll-Calc}
use Rattle.task_code.specs.declared.instrs.Deed.{Deed}
use Rattle.task_code.specs.declared.instrs.Deed.TheOpen as d
use Rattle.task_code.specs.declared.instrs.Deed.TheVariants.{SetReg, Read, Write, Print, rolls-SetReg, rolls-Read, rolls-Write, rolls-Print, rolls-When}
use Rattle.task_code.specs.declared.instrs.Deed.TheViews.{roll-Deed, When}
use Rattle.task_code.specs.declared.instrs.Deed.TheFolds.{map-Deed, fold-roll-Deed}

calc_level : (level : c.Calc-F Calc) → plain_calc (roll-Calc level) ≡ calc_of (map-Calc Calc plain.Calc plain_calc level)
unfolding plain_calc
calc_level level = fold-roll-Calc plain.Calc calc_of level

pub calc_Const : (n : ℤ) → plain_calc (Const n) ≡ plain.Const n
calc_Const n = ap plain_calc (sym (rolls-Const n)) ∙ calc_level (c.Const n)

pub calc_Ctl : (k : ℕ) → plain_calc (Ctl k) ≡ plain.Ctl k
calc_Ctl k = ap plain_calc (sym (rolls-Ctl k)) ∙ calc_level (c.Ctl k)

pub calc_Reg : (k : ℕ) → plain_calc (Reg k) ≡ plain.Reg k
calc_Reg k = ap plain_calc (sym (rolls-Reg k)) ∙ calc_level (c.Reg k)

pub calc_Me : plain_calc Me ≡ plain.Me
calc_Me = ap plain_calc (sym rolls-Me) ∙ calc_level c.Me

pub calc_Rows : (f : ℕ) → plain_calc (Rows f) ≡ plain.Rows f
calc_Rows f = ap plain_calc (sym (rolls-Rows f)) ∙ calc_level (c.Rows f)

pub calc_Cell : (f : ℕ) (row : Box Calc Global) (field : Box Calc Global)
    → plain_calc (Cell f row field) ≡ plain.Cell f (plain_calc row.value) (plain_calc field.value)
calc_Cell f row field = ap plain_calc (sym (rolls-Cell f row field)) ∙ calc_level (c.Cell f row field)

pub calc_Neg : (a : Box Calc Global) → plain_calc (Neg a) ≡ plain.Neg (plain_calc a.value)
calc_Neg a = ap plain_calc (sym (rolls-Neg a)) ∙ calc_level (c.Neg a)

pub calc_Not : (a : Box Calc Global) → plain_calc (Not a) ≡ plain.Not (plain_calc a.value)
calc_Not a = ap plain_calc (sym (rolls-Not a)) ∙ calc_level (c.Not a)

pub calc_Chain : (first : Box Calc Global) (others : List (Op × Calc))
    → plain_calc (Chain first others) ≡ plain.Chain (plain_calc first.value) (plain_operands others)
calc_Chain first others = ap plain_calc (sym (rolls-Chain first others)) ∙ calc_level (c.Chain first others)

pub calc_NoValue : plain_calc NoValue ≡ plain.NoValue
calc_NoValue = ap plain_calc (sym rolls-NoValue) ∙ calc_level c.NoValue

deed_level : (level : d.Deed-F Deed) → plain_deed (roll-Deed level) ≡ deed_of (map-Deed Deed plain.Deed plain_deed level)
unfolding plain_deed
deed_level level = fold-roll-Deed plain.Deed deed_of level

pub deed_SetReg : (k : ℕ) (c : Calc) → plain_deed (SetReg k c) ≡ plain.SetReg k (plain_calc c)
deed_SetReg k c = ap plain_deed (sym (rolls-SetReg k c)) ∙ deed_level (d.SetReg k c)

pub deed_Read : (cells : CellRange) (i : CellIndex) (k : ℕ) → plain_deed (Read cells i k) ≡ plain.Read cells i k
deed_Read cells i k = ap plain_deed (sym (rolls-Read cells i k)) ∙ deed_level (d.Read cells i k)

pub deed_Write : (cells : CellRange) (i : CellIndex) (c : Calc) → plain_deed (Write cells i c) ≡ plain.Write cells i (plain_calc c)
deed_Write cells i c = ap plain_deed (sym (rolls-Write cells i c)) ∙ deed_level (d.Write cells i c)

pub deed_Print : (cs : List Calc) → plain_deed (Print cs) ≡ plain.Print (plain_calcs cs)
deed_Print cs = ap plain_deed (sym (rolls-Print cs)) ∙ deed_level (d.Print cs)

pub deed_When : (c : Calc) (first : List Deed) (second : List Deed)
    → plain_deed (When c first second) ≡ plain.When (plain_calc c) (plain_arm first) (plain_arm second)
deed_When c first second = ap plain_deed (sym (rolls-When c first second)) ∙ deed_level (d.When c first second)

pub ruleset view = (
  calc_Const,
  calc_Ctl,
  calc_Reg,
  calc_Me,
  calc_Rows,
  calc_Cell,
  calc_Neg,
  calc_Not,
  calc_Chain,
  calc_NoValue,
  deed_SetReg,
  deed_Read,
  deed_Write,
  deed_Print,
  deed_When,
)
