use Rattle.std.proofs.Common.{◌≡◌, ◌++◌, drop}
use Rattle.task_ast.specs.meaning.Names.{datas, declared_in}
use Rattle.one_thread.proofs.variables.add_declared.Given as goal

abbrev pub invariant-loop-line : goal.invariant-loop-line
invariant-loop-line l = l.names ++ datas (declared_in (drop l.line-index l.lines)) ≡ l.fn.names ++ datas (declared_in l.lines)
