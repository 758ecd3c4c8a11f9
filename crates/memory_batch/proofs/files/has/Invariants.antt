use Rattle.std.proofs.Common.{◌≡◌, drop}
use Rattle.memory_batch.specs.Files.{has}
use Rattle.memory_batch.proofs.files.has.Given as goal

abbrev pub invariant-loop-known : goal.invariant-loop-known
invariant-loop-known l = has l.files l.name ≡ has (drop l.known-index l.files) l.name
