use Rattle.std.proofs.Common.{◌≡◌, ◌-◌, map, length}
use Rattle.task_ast.specs.Turn.{released_at}
use Rattle.one_thread.specs.View.{seat_of, onward_of}
use Rattle.task_ast.proofs.ChangedSeats.{first_mapped}
use Rattle.one_thread.proofs.turns.release.Given as goal

abbrev pub invariant-loop-t : goal.invariant-loop-t
invariant-loop-t l =
    (map seat_of l.seats ≡ first_mapped (released_at l.barrier) l.t (map seat_of l.fn.seats))
    × (map onward_of l.seats ≡ map onward_of l.fn.seats)

abbrev pub decreases-loop-t : goal.decreases-loop-t
decreases-loop-t l = length l.seats - l.t
