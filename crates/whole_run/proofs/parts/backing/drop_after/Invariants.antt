use Rattle.std.proofs.Common.{◌≡◌, ◌<◌, ◌++◌, List, length, All}
use Rattle.whole_run.specs.declared.parts.backing.Checkpoint.{Checkpoint}
use Rattle.whole_run.proofs.parts.backing.drop_after.Given as goal

abbrev pub invariant-dropping : goal.invariant-dropping
invariant-dropping l = record {
  whole : l.backup.whole ≡ l.fn.backup.whole;
  rest : List Checkpoint;
  split : l.fn.backup.checkpoints.items ≡ l.backup.checkpoints.items ++ rest;
  dropped : All (λ (checkpoint : Checkpoint). l.fn.cut < checkpoint.cut) rest;
}

abbrev pub decreases-dropping : goal.decreases-dropping
decreases-dropping l = length l.backup.checkpoints.items
