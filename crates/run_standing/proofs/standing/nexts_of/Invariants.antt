use Rattle.std.proofs.Common.{◌≡◌, take, map}
use Rattle.one_thread.specs.View.{seat_of}
use Rattle.run_standing.proofs.standing.nexts_of.Given as goal

-- those so far were taken over
abbrev pub invariant-loop-seat : goal.invariant-loop-seat
invariant-loop-seat l = l.nexts.items ≡ map (λ s. s.next) (map seat_of (take l.seat-index l.seats))
