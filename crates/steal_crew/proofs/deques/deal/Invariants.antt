use Rattle.std.proofs.Common.{◌≡◌, length}
use Rattle.steal_crew.proofs.deques.deal.Given as goal

abbrev pub invariant-loop-first : goal.invariant-loop-first
invariant-loop-first l = length l.deques.items ≡ l.first
