use Rattle.std.proofs.Common.{◌∙◌, rules}
use Rattle.one_thread.proofs.TaskVariables.{line-datas}
use Rattle.one_thread.proofs.variables.add_declared.Goals as goal

pub loop-line-preserved : goal.loop-line-preserved
loop-line-preserved c =
    line-datas c.args.lines.now c.loop-line.line-index c.line-item.result c.loop-line.names c.add_datas.new.names
    (search rules) (search rules) (search rules) ∙ c.loop-line.invariant
