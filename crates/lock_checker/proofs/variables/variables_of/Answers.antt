use Rattle.std.proofs.Common.{subst, sym, ap, ◌∙◌, ◌++◌, take, rules}
use Rattle.task_ast.specs.meaning.Names.{declared_in}
use Rattle.lock_checker.specs.inner.TaskVariables.{AreVariables}
use Rattle.lock_checker.proofs.VariableLemmas.{declared_more}
use Rattle.lock_checker.proofs.variables.variables_of.Goals as goal

pub loop-line-preserved : goal.loop-line-preserved
loop-line-preserved c =
    let before = c.args.task.now.params ++ declared_in (take c.loop-line.line-index c.args.task.now.vars) in
    subst (AreVariables c.add_all-in-loop-line.new.self)
    (ap (λ l. before ++ l) c.as_slice-in-loop-line.ensures
    ∙ sym (declared_more c.args.task.now.params c.args.task.now.vars c.loop-line.line-index c.line-item.result
    (search rules) (search rules)))
    (c.in_ok-add_all-2.ensures before c.loop-line.invariant).variables
