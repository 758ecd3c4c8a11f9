use Rattle.std.proofs.Common.{◌≡◌, [], length, ◌-◌}
use Rattle.gp_steal.specs.Held.{about, hand, IsPassOf}
use Rattle.board_tests.proofs.claims.sweep.Given as goal

abbrev pub invariant-loop-pass : goal.invariant-loop-pass
invariant-loop-pass g l = record {
  of : IsPassOf l.board l.pass;
  idle : (hand l.pass).held ≡ [];
  share : (hand l.pass).share ≡ (hand l.initial.pass).share;
}

abbrev pub decreases-loop-pass : goal.decreases-loop-pass
decreases-loop-pass g l = length (about l.board).jobs - (hand l.pass).swept
