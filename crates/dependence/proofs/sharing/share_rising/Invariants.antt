use Rattle.std.proofs.Common.{◌≡◌, ◌≤◌, length, Some}
use Rattle.std.specs.Prelude.{slice_get}
use Rattle.gp_base.specs.declared.footprint.Loc.{Loc}
use Rattle.dependence.specs.inner.Rising.{AreBelow}
use Rattle.dependence.proofs.Merging.{StandNowhere}
use Rattle.dependence.proofs.sharing.share_rising.Given as goal

abbrev pub invariant-loop-loc : goal.invariant-loop-loc
invariant-loop-loc l =
    record {
      within : l.place ≤ length l.right;
      below : (x : Loc) → slice_get l.left l.loc-index ≡ Some x → AreBelow l.right l.place x;
      nowhere : StandNowhere l.left l.right l.loc-index;
    }
