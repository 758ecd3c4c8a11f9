use Rattle.std.proofs.Common.{◌≡◌, map, take}
use Rattle.record_store.specs.Lent.{new_write}
use Rattle.subthread.specs.inner.Hand.{written_to}
use Rattle.subthread.proofs.cells.changes_of.Given as goal

abbrev pub invariant-noting : goal.invariant-noting
invariant-noting l = map written_to l.changes.items ≡ map (new_write l.under l.bundles) (take l.at l.olds)
