use Rattle.std.proofs.Common.{◌≡◌, ◌∷◌, ◌++◌, [], cond, nat_lt, take}
use Rattle.std.specs.List.{filter}
use Rattle.one_thread.proofs.owners.with_lock.Given as goal

-- the smaller locks so far
abbrev pub invariant-loop-other : goal.invariant-loop-other
invariant-loop-other l = l.locks ≡ filter (λ x. nat_lt x l.lock) (take l.other-index l.held)

-- then the greater ones so far
abbrev pub invariant-loop-other-2 : goal.invariant-loop-other-2
invariant-loop-other-2 l =
    l.locks ≡ filter (λ x. nat_lt x l.lock) l.held ++ cond l.holds (l.lock ∷ []) []
    ++ filter (λ x. nat_lt l.lock x) (take l.other-index l.held)
