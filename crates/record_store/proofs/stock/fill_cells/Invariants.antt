use Rattle.std.proofs.Common.{◌≡◌, length, map, take}
use Rattle.record_store.specs.inner.Shelves.{seen, cells_on}
use Rattle.record_store.proofs.stock.fill_cells.Given as goal

abbrev pub invariant-loop-at : goal.invariant-loop-at
invariant-loop-at l = record {
  filled : take l.at l.cells ≡ cells_on (map seen l.fn.shelves) (take l.at l.fn.places);
  count : length l.cells ≡ length l.fn.room;
}
