-- Code as definitions see it.
use Rattle.std.specs.Prelude.{ℕ, List, map}
use Rattle.task_ast.specs.declared.tree.Op.{Op}
use Rattle.task_code.specs.Instructions as plain
use Rattle.task_code.specs.Instructions.{operands, deeds, Operands, Deeds}
use Rattle.task_code.specs.declared.instrs.Calc.{Calc}
use Rattle.task_code.specs.declared.instrs.Calc.TheOpen as c
use Rattle.task_code.specs.declared.instrs.Calc.TheFolds.{fold-Calc}
use Rattle.task_code.specs.declared.instrs.Deed.{Deed}
use Rattle.task_code.specs.declared.instrs.Deed.TheOpen as d
use Rattle.task_code.specs.declared.instrs.Deed.TheFolds.{fold-Deed}
use Rattle.task_code.specs.declared.instrs.Forking.{Forking}
use Rattle.task_code.specs.declared.instrs.Does.{Does}
use Rattle.task_code.specs.declared.instrs.Does.TheVariants as o
use Rattle.task_code.specs.declared.instrs.Instr.{Instr}

abbrev pub calc_of : c.Calc-F plain.Calc → plain.Calc
calc_of (c.Const n) = plain.Const n
calc_of (c.Ctl k) = plain.Ctl k
calc_of (c.Reg k) = plain.Reg k
calc_of c.Me = plain.Me
calc_of (c.Rows f) = plain.Rows f
calc_of (c.Cell f row field) = plain.Cell f row.value field.value
calc_of (c.Neg a) = plain.Neg a.value
calc_of (c.Not a) = plain.Not a.value
calc_of (c.Chain first others) = plain.Chain first.value (operands others)
calc_of c.NoValue = plain.NoValue

unfoldable pub plain_calc : Calc → plain.Calc
plain_calc e = fold-Calc plain.Calc calc_of e

abbrev pub plain_members : List (Op × Calc) → List (Op × plain.Calc)
plain_members others = map (λ (m : Op × Calc). (m.0, plain_calc m.1)) others

abbrev pub plain_operands : List (Op × Calc) → Operands
plain_operands others = operands (plain_members others)

abbrev pub plain_calcs : List Calc → List plain.Calc
plain_calcs cs = map plain_calc cs

abbrev pub deed_of : d.Deed-F plain.Deed → plain.Deed
deed_of (d.SetReg k c) = plain.SetReg k (plain_calc c)
deed_of (d.Read cells i k) = plain.Read cells i k
deed_of (d.Write cells i c) = plain.Write cells i (plain_calc c)
deed_of (d.Print cs) = plain.Print (plain_calcs cs)
deed_of (d.When c first second) = plain.When (plain_calc c) (deeds first) (deeds second)

unfoldable pub plain_deed : Deed → plain.Deed
plain_deed x = fold-Deed plain.Deed deed_of x

abbrev pub plain_deeds : List Deed → List plain.Deed
plain_deeds ds = map plain_deed ds

abbrev pub plain_arm : List Deed → Deeds
plain_arm ds = deeds (plain_deeds ds)

abbrev pub plain_gifts : List (ℕ × Calc) → List (ℕ × plain.Calc)
plain_gifts gifts = map (λ (g : ℕ × Calc). (g.0, plain_calc g.1)) gifts

abbrev pub plain_forking : Forking → plain.Forking
plain_forking f =
    record { task = f.task; registers = f.registers; controls = plain_calcs f.controls; gifts = plain_gifts f.gifts; into = f.into }

abbrev pub plain_does : Does → plain.Does
plain_does (o.Assign k c) = plain.Assign k (plain_calc c)
plain_does (o.GoOn n) = plain.GoOn n
plain_does (o.Unless c n) = plain.Unless (plain_calc c) n
plain_does (o.Again c n) = plain.Again (plain_calc c) n
plain_does (o.Lock cells i) = plain.Lock cells i
plain_does (o.Unlock cells i) = plain.Unlock cells i
plain_does (o.Fork f) = plain.Fork (plain_forking f)
plain_does (o.Join c into) = plain.Join (plain_calc c) into
plain_does (o.Barrier b) = plain.Barrier b
plain_does (o.Settle k c) = plain.Settle k c
plain_does (o.Do x) = plain.Do (plain_deed x)

abbrev pub plain_instr : Instr → plain.Instr
plain_instr i = plain.At i.line (plain_does i.does)

abbrev pub plain_instrs : List Instr → List plain.Instr
plain_instrs is = map plain_instr is
