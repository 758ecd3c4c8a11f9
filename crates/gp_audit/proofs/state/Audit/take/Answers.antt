use Rattle.std.proofs.Common.{rules, ◌≡◌, length, ◌<◌, refl, ap, ◌∙◌, arith, not}
use Rattle.dependence.specs.JournalTests.{same_attempt}
use Rattle.gp_audit.specs.inner.Audited.{taken_seen, changed_at, left_waiting}
use Rattle.gp_audit.proofs.Sifted.{sifted}
use Rattle.gp_audit.proofs.Raised.{taken-is, or-true, or-false, same-kept}
use Rattle.gp_audit.proofs.state.Audit.take.Goals.{then-applies, else-applies}
use Rattle.gp_audit.proofs.state.Audit.take.Goals as goal

pub returns : goal.returns
returns c =
    let seen = c.args.self.now.seen.items in
    let s = c.index-seen.result.now in
    let p = c.position.inside.0 in
    let applies = c.args.applies in
    let view : p ≡ c.args.position = c.position.view_is in
    let within : p < length seen = (let r = c.requires in omega arith) in
    let value : c.if-applies.value ≡ _ = elim c.if-applies.branch [
      | then-applies w ↦ or-true applies s.applied c.if-applies.value w.if-applies.true w.value-is
      | else-applies w ↦ or-false applies s.applied c.if-applies.value w.if-applies.false w.value-is
    ] in
    same-kept _ _ refl refl (taken-is seen p s applies c.if-applies.value within c.index-seen.ensures value
    ∙ ap (λ q. changed_at (taken_seen applies) q seen) view)
    (sifted _ (λ f. f.0.now ≡ (c.args.position, c.args.attempt)) (λ pair. not (same_attempt (c.args.position, c.args.attempt) pair))
    (λ f x b g is called. (search rules, search rules)) _ (ap (λ q. (q, c.args.attempt)) view) _ _ c.retain.ensures.filtered)
    (c.leave_waiting.ensures ∙ ap (λ q. left_waiting applies q c.args.self.now.waiting.items) view)
    refl
