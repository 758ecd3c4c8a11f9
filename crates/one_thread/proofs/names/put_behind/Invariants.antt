use Rattle.std.proofs.Common.{◌≡◌, ◌++◌, map}
use Rattle.gp_base.specs.declared.footprint.Loc.TheVariants as loc
use Rattle.one_thread.proofs.names.put_behind.Given as goal

abbrev pub invariant-loop-cell : goal.invariant-loop-cell
invariant-loop-cell l = l.locations ++ map loc.Rec l.cell-iterator ≡ l.fn.locations ++ map loc.Rec l.cells.keys
