use Rattle.std.proofs.Common.{◌≡◌}
use Rattle.desk_board.specs.Held.{hand}
use Rattle.pipe_crew.specs.inner.Flights.{Stands}
use Rattle.pipe_crew.proofs.flight.Flight.help.Given as goal

abbrev pub invariant-loop : goal.invariant-loop
invariant-loop g l = record {
  stands : Stands l.self;
  taken : l.self.taken ≡ l.initial.self.taken;
  board : l.self.board ≡ l.initial.self.board;
  share : (hand l.self.pass).share ≡ (hand l.initial.self.pass).share;
}
