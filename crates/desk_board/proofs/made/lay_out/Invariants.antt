use Rattle.std.proofs.Common.{◌≡◌, ◌+◌, ◌≤◌, ◌++◌, map, reverse, vec_len, vec_capacity}
use Rattle.desk_board.specs.declared.view.Slot.TheVariants.{Todo}
use Rattle.desk_board.proofs.made.lay_out.Given as goal

abbrev pub invariant-loop-job : goal.invariant-loop-job
invariant-loop-job g l = record {
  laid : l.slots.items ++ map Todo (reverse l.jobs.items) ≡ map Todo (reverse l.initial.jobs.items);
  start : l.initial.slots.items ++ map Todo (reverse l.initial.jobs.items) ≡ map Todo (reverse l.initial.jobs.items);
  room : vec_len l.slots + vec_len l.jobs ≤ vec_capacity l.slots;
  kept : vec_capacity l.jobs ≡ vec_capacity l.initial.jobs;
}

abbrev pub decreases-loop-job : goal.decreases-loop-job
decreases-loop-job g l = vec_len l.jobs
