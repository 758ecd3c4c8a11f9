use Rattle.std.proofs.Common.{◌≡◌, take, map}
use Rattle.one_thread.specs.Walking.{point_of}
use Rattle.run_standing.proofs.standing.names_of.Given as goal

-- those so far were taken over
abbrev pub invariant-loop-walk : goal.invariant-loop-walk
invariant-loop-walk l = l.names.items ≡ map (λ p. p.names) (map point_of (take l.walk-index l.walks))
