use Rattle.std.proofs.Common.{◌≡◌, ◌++◌, map}
use Rattle.gp_base.specs.declared.footprint.Loc.TheVariants as loc
use Rattle.subthread.proofs.footprints.add_cells.Given as goal

abbrev pub invariant-loop-cell : goal.invariant-loop-cell
invariant-loop-cell l = l.locs ++ map loc.Rec l.cell-iterator ≡ l.fn.locs ++ map loc.Rec l.cells.keys
