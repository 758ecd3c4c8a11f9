use Rattle.std.proofs.Common.{◌≡◌, false, take}
use Rattle.run_views.specs.meaning.Links.{has_cell}
use Rattle.run_views.proofs.links.has_cell.Given as goal

-- none so far is the cell
abbrev pub invariant-loop-location : goal.invariant-loop-location
invariant-loop-location l = has_cell (take l.location-index l.locations) l.cell ≡ false
