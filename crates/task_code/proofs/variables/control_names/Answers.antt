use Rattle.std.proofs.Common.{[], ◌∙◌, rules}
use Rattle.task_ast.specs.meaning.Names.{controls, declared_in}
use Rattle.task_code.proofs.VariableLines.{controls-append, line-more, first-more}
use Rattle.task_code.proofs.variables.control_names.Goals as goal

pub loop-line-init : goal.loop-line-init
loop-line-init c =
    first-more controls controls-append c.args.task.now.params (declared_in c.args.task.now.vars)
    [] c.new-names.result c.add_controls.new.names (search rules) (search rules)

pub loop-line-preserved : goal.loop-line-preserved
loop-line-preserved c =
    line-more controls controls-append c.args.task.now.vars c.loop-line.line-index c.line-item.result c.loop-line.names
    c.add_controls-in-loop-line.new.names (search rules) (search rules) (search rules) ∙ c.loop-line.invariant
