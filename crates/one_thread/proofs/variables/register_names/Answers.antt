use Rattle.std.proofs.Common.{◌∙◌, ◌++◌, ap, List, rules}
use Rattle.task_ast.specs.declared.tree.VarLine.{VarLine}
use Rattle.task_ast.specs.meaning.Names.{ret, datas, declared_in}
use Rattle.one_thread.proofs.TaskVariables.{first-datas}
use Rattle.one_thread.proofs.variables.register_names.Goals as goal

pub returns : goal.returns
returns c =
    c.in_ok-add_declared.ensures ∙ ap (λ (l : List VarLine). c.add_datas.new.names ++ datas (declared_in l)) c.as_slice-2.ensures
    ∙ first-datas ret c.args.task.now.params (declared_in c.args.task.now.vars) c.push.new.self c.add_datas.new.names
    (search rules) (search rules)
