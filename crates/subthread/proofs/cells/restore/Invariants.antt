use Rattle.std.proofs.Common.{◌≡◌, btree_map_len}
use Rattle.record_store.specs.Lent.{put_back}
use Rattle.subthread.specs.inner.Places.{AreHandy}
use Rattle.subthread.proofs.cells.restore.Given as goal

abbrev pub invariant-restoring : goal.invariant-restoring
invariant-restoring l = record {
  handy : AreHandy l.under l.over l.bundles l.olds.entries;
  back : put_back l.under l.olds.entries l.bundles ≡ put_back l.under l.fn.olds.entries l.fn.bundles;
}

abbrev pub decreases-restoring : goal.decreases-restoring
decreases-restoring l = btree_map_len l.olds
