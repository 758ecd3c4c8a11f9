use Rattle.std.proofs.Common.{◌≡◌, take}
use Rattle.record_store.proofs.copies.copy_lists.Given as goal

abbrev pub invariant-loop-list : goal.invariant-loop-list
invariant-loop-list l = l.copies.items ≡ take l.list-index l.fn.lists
