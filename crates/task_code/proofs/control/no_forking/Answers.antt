use Rattle.std.proofs.Common.{[], ◌∷◌, ◌++◌, ap, ap₂, ◌∙◌}
use Rattle.task_code.specs.declared.instrs.Calc.TheVariants.{NoValue}
use Rattle.task_code.specs.View.{plain_calcs, plain_gifts}
use Rattle.task_code.proofs.Views.{calc_NoValue}
use Rattle.task_code.proofs.control.no_forking.Goals as goal

pub returns : goal.returns
returns c =
    let pushed = c.in_ok-push.ensures.ok ∙ ap (λ l. l ++ NoValue ∷ []) c.new-controls.ensures in
    ap₂ (λ cs gs. record { task = 0; registers = 0; controls = cs; gifts = gs; into = c.args.into })
    (ap plain_calcs pushed ∙ ap (λ e. e ∷ []) calc_NoValue) (ap plain_gifts c.new.ensures)
