use Rattle.std.proofs.Common.{ap, sym, ◌∙◌}
use Rattle.std.proofs.lemmas.Bool.{false≢true}
use Rattle.record_store.specs.inner.Shelves.{is_away}
use Rattle.record_store.specs.declared.shelf.CellShelf.TheVariants.{Home}
use Rattle.record_store.proofs.Pushed.{taken_more}
use Rattle.record_store.proofs.Stocked.{each-home}
use Rattle.record_store.proofs.copies.copy_shelves.Goals as goal

pub unreachable-requires : goal.unreachable-requires
unreachable-requires c =
    let it = c.shelf-item in
    false≢true
    (sym (ap is_away it.is ∙ each-home c.args.shelves.now c.loop-shelf.shelf-index it.result c.requires c.loop-shelf-test.true)
    ∙ ap is_away c.in-Lent.is)

pub loop-shelf-preserved : goal.loop-shelf-preserved
loop-shelf-preserved c =
    taken_more c.args.shelves.now c.loop-shelf.shelf-index c.shelf-item.result c.loop-shelf.copies.items c.push.new.self.items
    (Home c.in_ok-cells-in-Home.cells) c.loop-shelf-test.true c.shelf-item.is c.loop-shelf.invariant
    (ap Home c.in_ok-cells-in-Home.ensures ∙ sym c.in-Home.is) c.in_ok-push.ensures.items
