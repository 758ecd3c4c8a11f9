use Rattle.std.proofs.Common.{◌≡◌, [], length, ◌-◌}
use Rattle.desk_board.specs.Held.{about, hand, IsPassOf}
use Rattle.desk_board.proofs.Draining.{past}
use Rattle.board_tests.proofs.draws.drain.Given as goal

abbrev pub invariant-loop-desk : goal.invariant-loop-desk
invariant-loop-desk g l = record {
  of : IsPassOf l.board l.pass;
  idle : (hand l.pass).held ≡ [];
  share : (hand l.pass).share ≡ (hand l.initial.pass).share;
}

abbrev pub decreases-loop-desk : goal.decreases-loop-desk
decreases-loop-desk g l = length (about l.board).jobs - past (hand l.pass).drawn
