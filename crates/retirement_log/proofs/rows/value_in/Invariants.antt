use Rattle.std.proofs.Common.{◌≡◌, drop}
use Rattle.record_store.specs.Given.{value_in}
use Rattle.retirement_log.proofs.rows.value_in.Given as goal

-- the cell is in none of the bundles so far
abbrev pub invariant-loop-bundle : goal.invariant-loop-bundle
invariant-loop-bundle l = value_in l.under (drop l.bundle-index l.bundles) l.fn.cell ≡ value_in l.under l.bundles l.fn.cell
