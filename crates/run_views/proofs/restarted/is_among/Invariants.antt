use Rattle.std.proofs.Common.{◌≡◌, nat_eq, false, take}
use Rattle.std.specs.List.{list_any}
use Rattle.run_views.proofs.restarted.is_among.Given as goal

-- none so far is the position
abbrev pub invariant-loop-other : goal.invariant-loop-other
invariant-loop-other l = list_any (nat_eq l.position) (take l.other-index l.positions) ≡ false
