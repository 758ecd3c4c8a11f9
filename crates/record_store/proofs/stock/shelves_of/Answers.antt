use Rattle.std.proofs.Common.{map, ap, ◌∙◌}
use Rattle.record_store.specs.declared.shelf.CellShelf.TheVariants.{Home}
use Rattle.record_store.specs.inner.Shelves.{new_shelf}
use Rattle.task_ast.specs.meaning.State.{number_at}
use Rattle.record_store.proofs.Pushed.{mapped_more}
use Rattle.record_store.proofs.stock.shelves_of.Goals as goal

pub loop-numbers-preserved : goal.loop-numbers-preserved
loop-numbers-preserved c =
    mapped_more (new_shelf c.args.cells.now) c.args.under.now c.loop-numbers.numbers-index c.numbers-item.result
    c.loop-numbers.shelves.items c.push.new.self.items (Home c.made.result) c.loop-numbers-test.true c.numbers-item.is
    c.loop-numbers.invariant
    (ap Home (c.made.ensures ∙ c.in_ok-values.ensures ∙ ap (map (number_at c.args.cells.now)) c.as_slice.ensures))
    c.in_ok-push.ensures.items
