use Rattle.std.proofs.Common.{[], take}
use Rattle.lock_checker.specs.inner.Indexes.{Finds}
use Rattle.lock_checker.proofs.index.index_heads.Given as goal

abbrev pub invariant-loop-head : goal.invariant-loop-head
invariant-loop-head l = Finds l.index (take l.head-index l.heads) []
