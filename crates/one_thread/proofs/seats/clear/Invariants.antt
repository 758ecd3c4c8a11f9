use Rattle.std.proofs.Common.{◌≡◌, ◌-◌, map, length}
use Rattle.ended_seats.proofs.Walks.{Clearing}
use Rattle.one_thread.specs.View.{seat_of, onward_of}
use Rattle.one_thread.proofs.seats.clear.Given as goal

abbrev pub invariant-loop-t : goal.invariant-loop-t
invariant-loop-t l = Clearing (map seat_of l.fn.seats) (map seat_of l.seats) l.t × (map onward_of l.seats ≡ map onward_of l.fn.seats)

abbrev pub decreases-loop-t : goal.decreases-loop-t
decreases-loop-t l = length l.seats - l.t
