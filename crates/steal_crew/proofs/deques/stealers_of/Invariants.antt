use Rattle.std.proofs.Common.{◌≡◌, length}
use Rattle.steal_crew.proofs.deques.stealers_of.Given as goal

abbrev pub invariant-loop-deque : goal.invariant-loop-deque
invariant-loop-deque l = length l.stealers.items ≡ l.deque-index
