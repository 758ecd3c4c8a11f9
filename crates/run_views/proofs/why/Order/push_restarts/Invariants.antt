use Rattle.std.proofs.Common.{◌≡◌, ◌+◌, ◌++◌, drop, map}
use Rattle.run_views.specs.meaning.Why.{restart_texts}
use Rattle.run_views.specs.Seen.{party_in}
use Rattle.run_views.proofs.why.Order.push_restarts.Given as goal

-- the restarts so far, and those that are left, are all
abbrev pub invariant-loop-at : goal.invariant-loop-at
invariant-loop-at l =
    l.text.items ++ restart_texts l.self.heads.now (map party_in l.self.steps.now) l.position (l.at + 1) (drop l.at l.restarts)
    ≡ l.fn.text.items ++ restart_texts l.self.heads.now (map party_in l.self.steps.now) l.position 1 l.restarts
