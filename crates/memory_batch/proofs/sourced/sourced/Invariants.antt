use Rattle.std.proofs.Common.{◌≡◌, ◌++◌, drop}
use Rattle.memory_batch.proofs.Heads.{cells_by}
use Rattle.memory_batch.proofs.sourced.sourced.Given as goal

-- those so far, and those of the heads that are left, are all
abbrev pub invariant-loop-head : goal.invariant-loop-head
invariant-loop-head l = l.found ++ cells_by (drop l.head-index l.heads) l.rest ≡ cells_by l.heads l.cells
