use Rattle.std.proofs.Common.{◌≡◌, drop}
use Rattle.db_names.specs.Sources.{sources_of, sources_from}
use Rattle.db_names.proofs.sources.gathered.Given as goal

abbrev pub invariant-loop-head : goal.invariant-loop-head
invariant-loop-head l = sources_of l.program l.heads ≡ sources_from l.program l.sources (drop l.head-index l.heads)
