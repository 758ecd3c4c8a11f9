use Rattle.std.proofs.Common.{◌∙◌, rules}
use Rattle.one_thread.proofs.TaskVariables.{line-controls}
use Rattle.one_thread.proofs.variables.control_variables.Goals as goal

pub loop-line-preserved : goal.loop-line-preserved
loop-line-preserved c =
    line-controls c.args.task.now.vars c.loop-line.line-index c.line-item.result c.loop-line.names c.add_controls-in-loop-line.new.names
    (search rules) (search rules) (search rules) ∙ c.loop-line.invariant
