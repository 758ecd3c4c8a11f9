use Rattle.std.proofs.Common.{◌+◌}
use Rattle.reorder_list.specs.Entries.{first_position}
use Rattle.reorder_list.specs.Watched.{AllApplied}
use Rattle.reorder_list.proofs.search.first_unapplied.Given as goal

abbrev pub invariant-loop-place : goal.invariant-loop-place
invariant-loop-place l = AllApplied l.entries.items l.first × AllApplied l.entries.items (first_position l.entries.items + l.place)
