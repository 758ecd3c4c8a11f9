use Rattle.std.proofs.Common.{◌≡◌, false, take}
use Rattle.std.specs.List.{list_any}
use Rattle.gp_audit.specs.inner.Audited.{holds_up, kept}
use Rattle.gp_audit.proofs.state.Audit.is_held_up.Given as goal

abbrev pub invariant-loop-earlier : goal.invariant-loop-earlier
invariant-loop-earlier l = list_any (holds_up (kept l.self) l.position) (take l.earlier-index l.self.waiting.items) ≡ false
