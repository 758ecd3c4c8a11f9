use Rattle.one_thread.proofs.Assigned.{Passed}
use Rattle.one_thread.proofs.variables.place_of.Given as goal

-- the names so far have other names
abbrev pub invariant-loop-at : goal.invariant-loop-at
invariant-loop-at l = Passed l.at l.names l.name
