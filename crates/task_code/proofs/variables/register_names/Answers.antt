use Rattle.std.proofs.Common.{[], ◌∷◌, ◌∙◌, rules}
use Rattle.task_ast.specs.meaning.Names.{ret, datas, declared_in}
use Rattle.task_code.proofs.VariableLines.{datas-append, line-more, first-more}
use Rattle.task_code.proofs.variables.register_names.Goals as goal

pub loop-line-init : goal.loop-line-init
loop-line-init c =
    first-more datas datas-append c.args.task.now.params (declared_in c.args.task.now.vars) (ret ∷ []) c.push.new.self c.add_datas.new.names
    (search rules) (search rules)

pub loop-line-preserved : goal.loop-line-preserved
loop-line-preserved c =
    line-more datas datas-append c.args.task.now.vars c.loop-line.line-index c.line-item.result c.loop-line.names
    c.add_datas-in-loop-line.new.names (search rules) (search rules) (search rules) ∙ c.loop-line.invariant
