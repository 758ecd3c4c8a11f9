use Rattle.std.proofs.Common.{◌≡◌, ◌+◌, [], None}
use Rattle.std.specs.Arc.{arc_value}
use Rattle.desk_board.specs.Held.{hand, IsPassOf}
use Rattle.pipe_crew.proofs.flight.send_passes.Given as goal

abbrev pub invariant-loop-sent : goal.invariant-loop-sent
invariant-loop-sent g l = record {
  of : IsPassOf (arc_value l.board) l.pass;
  held : (hand l.pass).held ≡ [];
  ticket : (hand l.pass).ticket ≡ None;
  share : (hand l.pass).share + l._sent ≡ 64;
}
