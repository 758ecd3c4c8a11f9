use Rattle.std.proofs.Common.{◌≡◌, ◌<◌, true, length, sym, ap, ◌∙◌, rules}
use Rattle.task_ast.specs.meaning.Names.{is_name}
use Rattle.one_thread.proofs.Assigned.{assigned_first, same_there}
use Rattle.one_thread.proofs.variables.place_of.Goals as goal

pub returns-then-same_name : goal.returns-then-same_name
returns-then-same_name c =
    let below : c.loop-at.at < length c.args.names.now = search rules in
    let tested : c.same_name.result ≡ is_name c.args.name.now c.index-names-at.result.0 = search rules in
    let named : is_name c.args.name.now c.index-names-at.result.0 ≡ true = sym tested ∙ c.if-same_name.true in (
      below,
      λ p v is. assigned_first c.args.names.now c.args.name.now v c.loop-at.at p below is
          (ap (λ x. is_name c.args.name.now x.0) (same_there c.args.names.now c.loop-at.at p c.index-names-at.result below is
          c.index-names-at.is) ∙ named) c.loop-at.invariant,
    )
