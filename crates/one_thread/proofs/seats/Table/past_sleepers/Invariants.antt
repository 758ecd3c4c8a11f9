use Rattle.std.proofs.Common.{◌-◌, ◌≤◌, map, length}
use Rattle.one_thread.specs.inner.Sleeping.{SleepBetween}
use Rattle.one_thread.specs.View.{seat_of}
use Rattle.one_thread.proofs.seats.Table.past_sleepers.Given as goal

abbrev pub invariant-loop-t : goal.invariant-loop-t
invariant-loop-t l = SleepBetween l.from l.t (map seat_of l.self.seats.items) × (l.from ≤ l.t)

abbrev pub decreases-loop-t : goal.decreases-loop-t
decreases-loop-t l = length l.self.seats.items - l.t
