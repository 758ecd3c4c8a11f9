use Rattle.std.proofs.Common.{◌≡◌, ℕ, true, drop}
use Rattle.std.specs.Ordering.{nat_cmp}
use Rattle.std.specs.FinMap.{is_sorted}
use Rattle.record_store.specs.Lent.{put_back}
use Rattle.subthread.specs.inner.Places.{AreHandy}
use Rattle.subthread.proofs.Struck.{then}
use Rattle.subthread.proofs.cells.strike.Given as goal

abbrev pub invariant-striking : goal.invariant-striking
invariant-striking l = record {
  handy : AreHandy l.under l.over l.bundles l.olds;
  came : put_back l.under l.olds l.bundles ≡ put_back l.under l.olds l.fn.bundles;
  rising : is_sorted nat_cmp (drop l.at l.olds) ≡ true;
  values : (d : ℕ) → then l.under l.mask (drop l.at l.olds) l.bundles d ≡ then l.under l.mask l.olds l.fn.bundles d;
}
