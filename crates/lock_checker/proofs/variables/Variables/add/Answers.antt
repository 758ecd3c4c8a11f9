use Rattle.std.proofs.Common.{◌≡◌, subst, sym, [], ◌∷◌, rules}
use Rattle.std.specs.Prelude.{is_some}
use Rattle.task_ast.specs.declared.tree.Param.{Param}
use Rattle.lock_checker.specs.Tables.{found}
use Rattle.lock_checker.specs.inner.TaskVariables.{Adds}
use Rattle.lock_checker.proofs.VariableLemmas.{adds_control, adds_data}
use Rattle.lock_checker.proofs.variables.Variables.add.Goals as goal

pub returns-in_ok-put-in-Ctl : goal.returns-in_ok-put-in-Ctl
returns-in_ok-put-in-Ctl c = λ before were.
    let there : c.is_some-double.result ≡ is_some (found c.args.self.now.controls c.in-Ctl.name) = search rules in
    subst (λ (p : Param). Adds (record { controls = c.put.new.self; datas = c.args.self.now.datas }) before
    (p ∷ []) c.is_some-double.result) (sym c.in-Ctl.is)
    (adds_control c.args.self.now c.put.new.self before c.in-Ctl.name c.is_some-double.result were there c.in_ok-put-in-Ctl.ensures)

pub returns-in_ok-put-in-Reg : goal.returns-in_ok-put-in-Reg
returns-in_ok-put-in-Reg c = λ before were.
    subst (λ (p : Param). Adds (record { controls = c.args.self.now.controls; datas = c.put-in-Reg.new.self }) before
    (p ∷ []) c.has_data-double.result) (sym c.in-Reg.is)
    (adds_data c.args.self.now c.put-in-Reg.new.self before c.in-Reg.name c.has_data-double.result were c.has_data-double.ensures
    c.in_ok-put-in-Reg.ensures)
