use Rattle.std.proofs.Common.{◌≡◌, ◌+◌, ◌≤◌, ◌++◌, map, reverse, vec_len, vec_capacity}
use Rattle.desk_board.specs.declared.view.Slot.TheVariants.{Todo}
use Rattle.desk_board.proofs.made.take_back.Given as goal

abbrev pub invariant-loop-slot : goal.invariant-loop-slot
invariant-loop-slot g l = record {
  laid : l.slots.items ++ map Todo (reverse l.jobs.items) ≡ map Todo l.were.value.items;
  room : vec_len l.slots + vec_len l.jobs ≤ vec_capacity l.jobs;
}

abbrev pub decreases-loop-slot : goal.decreases-loop-slot
decreases-loop-slot g l = vec_len l.slots
