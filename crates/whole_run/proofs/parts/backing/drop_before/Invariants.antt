use Rattle.std.proofs.Common.{◌≡◌, ◌<◌, ◌++◌, List, length, All}
use Rattle.whole_run.specs.declared.parts.backing.Checkpoint.{Checkpoint}
use Rattle.whole_run.proofs.parts.backing.drop_before.Given as goal

abbrev pub invariant-dropping : goal.invariant-dropping
invariant-dropping l = record {
  whole : l.backup.whole ≡ l.fn.backup.whole;
  front : List Checkpoint;
  split : l.fn.backup.checkpoints.items ≡ front ++ l.backup.checkpoints.items;
  dropped : All (λ (checkpoint : Checkpoint). checkpoint.cut < l.fn.position) front;
}

abbrev pub decreases-dropping : goal.decreases-dropping
decreases-dropping l = length l.backup.checkpoints.items
