use Rattle.std.proofs.Common.{◌∙◌, ap, ap₂, sym}
use Rattle.std.proofs.lemmas.List.Sums.{fold_more}
use Rattle.clap.specs.Simple.{app_of_fields}
use Rattle.clap.specs.Words.{App, with_rule, new_app}
use Rattle.command_line.specs.declared.arguments.Argument.{Argument}
use Rattle.command_line.specs.meaning.Words.{without_help}
use Rattle.command_line.specs.Arguments.{rule_for}
use Rattle.command_line.proofs.arguments.command_of.Goals as goal

pub loop-argument-init : goal.loop-argument-init
loop-argument-init c = ap app_of_fields c.disable_help_flag-command.ensures ∙ ap without_help c.new.ensures.app

pub loop-argument-preserved : goal.loop-argument-preserved
loop-argument-preserved c =
    let add : App → Argument → App = λ app argument. with_rule app (rule_for argument) in
    c.in_ok-command.ensures.shape c.arg_of.ensures.local ∙ ap₂ with_rule c.loop-argument.invariant c.arg_of.ensures.rule
    ∙ sym (fold_more add (without_help (new_app c.args.name.now)) c.args.arguments.now c.loop-argument.argument-index _ c.loop-argument-test.true)
