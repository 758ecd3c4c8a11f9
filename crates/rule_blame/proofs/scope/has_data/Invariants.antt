use Rattle.std.proofs.Common.{◌≡◌, drop}
use Rattle.task_ast.specs.meaning.Names.{is_among, datas}
use Rattle.rule_blame.proofs.scope.has_data.Given as goal

abbrev pub invariant-loop-param : goal.invariant-loop-param
invariant-loop-param l =
    is_among l.x (datas (drop l.param-index l.params)) ≡ is_among l.x (datas l.params)
