use Rattle.std.proofs.Common.{◌-◌, map, length}
use Rattle.ended_seats.specs.Idle.{IdleBetween}
use Rattle.one_thread.specs.View.{seat_of}
use Rattle.one_thread.proofs.seats.Table.first_busy.Given as goal

abbrev pub invariant-loop-t : goal.invariant-loop-t
invariant-loop-t l = IdleBetween l.from l.t (map seat_of l.self.seats.items)

abbrev pub decreases-loop-t : goal.decreases-loop-t
decreases-loop-t l = length l.self.seats.items - l.t
