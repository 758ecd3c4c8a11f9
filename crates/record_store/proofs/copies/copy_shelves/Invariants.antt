use Rattle.std.proofs.Common.{◌≡◌, take}
use Rattle.record_store.proofs.copies.copy_shelves.Given as goal

abbrev pub invariant-loop-shelf : goal.invariant-loop-shelf
invariant-loop-shelf l = l.copies.items ≡ take l.shelf-index l.fn.shelves
