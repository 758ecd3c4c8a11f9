use Rattle.std.proofs.Common.{◌≡◌, ◌++◌, drop}
use Rattle.task_ast.specs.meaning.Names.{datas, declared_in, registers_of}
use Rattle.task_ast.specs.View.{plain_task}
use Rattle.task_code.proofs.variables.register_names.Given as goal

abbrev pub invariant-loop-line : goal.invariant-loop-line
invariant-loop-line l = l.names ++ datas (declared_in (drop l.line-index l.task.vars)) ≡ registers_of (plain_task l.task)
