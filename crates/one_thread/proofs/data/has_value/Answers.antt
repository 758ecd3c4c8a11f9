use Rattle.std.proofs.Common.{◌∙◌, sym, rules, ◌≡◌}
use Rattle.std.specs.Prelude.{is_some}
use Rattle.task_ast.specs.meaning.Value.{value}
use Rattle.task_ast.specs.View.{plain_expr}
use Rattle.task_ast.proofs.Arms.{map_some}
use Rattle.one_thread.proofs.data.has_value.Goals as goal

pub returns : goal.returns
returns c =
    λ registers. (let e : c.is_some.result ≡ is_some (value (plain_expr c.args.e.now) c.args.env.now) = search rules in e)
    ∙ sym (map_some _ (value (plain_expr c.args.e.now) c.args.env.now))
