use Rattle.std.proofs.Common.{◌∙◌}
use Rattle.rule_blame.specs.Views.{used_in}
use Rattle.rule_blame.proofs.Appends.{arguments_step}
use Rattle.rule_blame.proofs.uses.push_arguments.Goals as goal

pub loop-at-preserved : goal.loop-at-preserved
loop-at-preserved c =
    arguments_step c.args.params.now c.args.arguments.now c.loop-at.at c.index-arguments-at.result (used_in c.loop-at.uses.items)
    (used_in c.push_names.new.uses.items) c.is_control_param.result c.loop-at-test.true c.index-arguments-at.is c.is_control_param.ensures
    c.in_ok-push_names.ensures ∙ c.loop-at.invariant
