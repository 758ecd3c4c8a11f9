use Rattle.std.proofs.Common.{◌∙◌, sym}
use Rattle.reorder_list.specs.Entries.{known_entry}
use Rattle.whole_run.proofs.Options.{none_copied}
use Rattle.whole_run.proofs.Taken.{none-changed}
use Rattle.whole_run.proofs.parts.taking.learn_foot.Goals as goal

pub returns-else-is_some : goal.returns-else-is_some
returns-else-is_some c =
    sym (none-changed c.args.pos (known_entry c.args.foot) c.args.rol.now.entries
    (sym c.get.ensures ∙ none_copied c.get.result (sym c.is_some.ensures ∙ c.if-is_some.false)))
