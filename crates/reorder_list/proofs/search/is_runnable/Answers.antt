use Rattle.std.proofs.Common.{◌∙◌, ◌+◌, sym}
use Rattle.std.proofs.lemmas.Bool.{both_ways}
use Rattle.reorder_list.specs.Entries.{first_position}
use Rattle.reorder_list.proofs.Readiness.{not-waiting, read-there}
use Rattle.reorder_list.proofs.Watching.{found-decides}
use Rattle.reorder_list.proofs.search.is_runnable.Goals as goal

pub returns-then-is_waiting : goal.returns-then-is_waiting
returns-then-is_waiting c =
    let entries = c.args.entries.now.items in
    found-decides entries (first_position entries + c.args.place) c.index.result.now c.blocker.result c.is_none.result c.is_none.ensures
    (read-there entries c.args.place c.index.result.now c.requires.in_row c.requires.in_range c.index.ensures)
    (sym c.is_waiting.ensures ∙ c.if-is_waiting.true) c.blocker.ensures.none c.blocker.ensures.some

pub returns-else-is_waiting : goal.returns-else-is_waiting
returns-else-is_waiting c = (
  λ t. absurd (both_ways c.is_waiting.result c.if-is_waiting.false t),
  λ r. absurd (not-waiting c.args.entries.now.items c.requires.in_row c.args.place c.requires.in_range c.index.result.now c.index.ensures
      (sym c.is_waiting.ensures ∙ c.if-is_waiting.false) r),
)
