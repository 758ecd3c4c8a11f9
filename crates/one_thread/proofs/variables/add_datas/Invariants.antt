use Rattle.std.proofs.Common.{◌≡◌, ◌++◌, drop}
use Rattle.task_ast.specs.meaning.Names.{datas}
use Rattle.one_thread.proofs.variables.add_datas.Given as goal

abbrev pub invariant-loop-param : goal.invariant-loop-param
invariant-loop-param l = l.names ++ datas (drop l.param-index l.params) ≡ l.fn.names ++ datas l.params
