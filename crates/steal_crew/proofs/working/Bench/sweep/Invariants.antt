use Rattle.std.proofs.Common.{◌≡◌, ◌+◌, ◌-◌, ◌≤◌, length}
use Rattle.gp_steal.specs.Held.{about, hand}
use Rattle.steal_crew.specs.Working.{IsIdle}
use Rattle.steal_crew.proofs.working.Bench.sweep.Given as goal

abbrev pub invariant-loop-pass : goal.invariant-loop-pass
invariant-loop-pass g l = record {
  idle : IsIdle l.self.board.now l.self.work.now l.pass;
  share : (hand l.pass).share ≡ (hand l.initial.pass).share;
  counted : length (hand l.pass).claimed ≡ length (hand l.initial.pass).claimed + l.claimed;
  few : l.claimed ≤ (hand l.pass).swept;
}

abbrev pub decreases-loop-pass : goal.decreases-loop-pass
decreases-loop-pass g l = length (about l.self.board.now).jobs - (hand l.pass).swept
