use Rattle.std.proofs.Common.{◌≡◌, map}
use Rattle.task_ast.proofs.ChangedSeats.{first_mapped}
use Rattle.one_thread.specs.View.{seat_of, onward_of}
use Rattle.one_thread.proofs.seats.forget.Given as goal

abbrev pub invariant-loop-seat : goal.invariant-loop-seat
invariant-loop-seat l =
    (map seat_of l.seats ≡ map seat_of l.fn.seats) × (map onward_of l.seats ≡ first_mapped (λ n. 0) l.seat-index (map onward_of l.fn.seats))
