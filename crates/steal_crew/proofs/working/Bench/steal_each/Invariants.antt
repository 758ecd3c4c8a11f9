use Rattle.std.proofs.Common.{◌≡◌, ◌+◌, ◌*◌, ◌≤◌, length}
use Rattle.gp_steal.specs.Held.{hand}
use Rattle.steal_crew.specs.Working.{IsIdle}
use Rattle.steal_crew.proofs.working.Bench.steal_each.Given as goal

abbrev pub invariant-loop-place : goal.invariant-loop-place
invariant-loop-place g l = record {
  idle : IsIdle l.self.board.now l.self.work.now l.pass;
  share : (hand l.pass).share ≡ (hand l.initial.pass).share;
  counted : length (hand l.pass).claimed ≡ length (hand l.initial.pass).claimed + l.claimed;
  few : l.claimed ≤ 4294967296 * l.place;
}
