use Rattle.std.proofs.Common.{◌≡◌, ◌++◌, drop}
use Rattle.task_ast.specs.View.{plain_links}
use Rattle.rule_blame.specs.Uses.{names_among}
use Rattle.rule_blame.specs.Views.{used_in}
use Rattle.rule_blame.proofs.uses.+names.Given as goal

abbrev pub invariant-push_links-loop-link : goal.invariant-push_links-loop-link
invariant-push_links-loop-link l =
    used_in l.uses.items ++ names_among l.decides (plain_links (drop l.link-index l.links))
    ≡ used_in l.initial.uses.items ++ names_among l.decides (plain_links l.links)
