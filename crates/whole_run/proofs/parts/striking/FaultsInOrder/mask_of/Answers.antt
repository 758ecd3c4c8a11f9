use Rattle.std.proofs.Common.{◌≡◌, ◌∙◌, ◌<◌, ◌≤◌, option_copied, pos, length, w64, to_z, of_z, sym, ap, subst, arith}
use Rattle.std.specs.List.{AllWithin}
use Rattle.gp_base.specs.declared.fault.Fault.{Fault}
use Rattle.gp_base.specs.declared.fault.Faults.{Faults}
use Rattle.dependence.specs.Restarts.{mask_of}
use Rattle.whole_run.specs.inner.Striking.{rank, key_of}
use Rattle.whole_run.proofs.InOrder.{mask-read, mask-unread}
use Rattle.whole_run.proofs.parts.striking.FaultsInOrder.mask_of.Goals as goal

pub returns-in-Some : goal.returns-in-Some
returns-in-Some c =
    let at = c.pos.view_is in
    let here = c.if-fault-pos.true in
    let same = c.if-fault-attempt.true in
    subst (λ (faults : Faults). to_z w64 (of_z w64 c.in-Some.fault.now.mask) ≡ mask_of faults.list c.args.pos c.args.attempt) c.self.view_is
    (mask-read c.self.inside.given.value c.self.inside.list c.self.invariant c.args.pos c.args.attempt c.place_from-place.result
    c.in-Some.fault.now (sym c.get.ensures ∙ ap option_copied c.in-Some.is) (omega arith) (omega arith))

pub returns-in_default : goal.returns-in_default
returns-in_default c =
    let small = c.ranges.attempt.fits in
    let other = c.if-fault-attempt.false in
    subst (λ p. pos 0 ≡ mask_of c.args.self.now.list p c.args.attempt) c.pos.view_is
    (subst (λ (faults : Faults). pos 0 ≡ mask_of faults.list c.pos.inside.0 c.args.attempt) c.self.view_is
    (mask-unread c.self.inside.given.value c.self.inside.list c.self.invariant c.pos.inside.0 c.args.attempt c.place_from-place.result
    (omega arith)
    (subst (λ faults. AllWithin (λ fault. rank fault < key_of c.pos.inside.0 c.args.attempt) faults 0 c.place_from-place.result)
    c.as_slice.ensures c.place_from-place.ensures.before)
    (subst (λ faults. AllWithin (λ fault. key_of c.pos.inside.0 c.args.attempt ≤ rank fault) faults c.place_from-place.result (length faults))
    c.as_slice.ensures c.place_from-place.ensures.from)
    (λ x found here same.
    let is : c.in-Some.fault.now ≡ x = cc (sym (ap option_copied c.in-Some.is) ∙ c.get.ensures ∙ found) in
    let attempt = ap (λ (f : Fault). f.attempt) is in
    absurd (omega arith))))

pub returns-in_default-2 : goal.returns-in_default-2
returns-in_default-2 c =
    let small = c.ranges.attempt.fits in
    let other = c.if-fault-pos.false in
    subst (λ p. pos 0 ≡ mask_of c.args.self.now.list p c.args.attempt) c.pos.view_is
    (subst (λ (faults : Faults). pos 0 ≡ mask_of faults.list c.pos.inside.0 c.args.attempt) c.self.view_is
    (mask-unread c.self.inside.given.value c.self.inside.list c.self.invariant c.pos.inside.0 c.args.attempt c.place_from-place.result
    (omega arith)
    (subst (λ faults. AllWithin (λ fault. rank fault < key_of c.pos.inside.0 c.args.attempt) faults 0 c.place_from-place.result)
    c.as_slice.ensures c.place_from-place.ensures.before)
    (subst (λ faults. AllWithin (λ fault. key_of c.pos.inside.0 c.args.attempt ≤ rank fault) faults c.place_from-place.result (length faults))
    c.as_slice.ensures c.place_from-place.ensures.from)
    (λ x found here same.
    let is : c.in-Some.fault.now ≡ x = cc (sym (ap option_copied c.in-Some.is) ∙ c.get.ensures ∙ found) in
    let position = ap (λ (f : Fault). f.pos) is in
    absurd (omega arith))))

pub returns-in_default-3 : goal.returns-in_default-3
returns-in_default-3 c =
    let small = c.ranges.attempt.fits in
    subst (λ p. pos 0 ≡ mask_of c.args.self.now.list p c.args.attempt) c.pos.view_is
    (subst (λ (faults : Faults). pos 0 ≡ mask_of faults.list c.pos.inside.0 c.args.attempt) c.self.view_is
    (mask-unread c.self.inside.given.value c.self.inside.list c.self.invariant c.pos.inside.0 c.args.attempt c.place_from-place.result
    (omega arith)
    (subst (λ faults. AllWithin (λ fault. rank fault < key_of c.pos.inside.0 c.args.attempt) faults 0 c.place_from-place.result)
    c.as_slice.ensures c.place_from-place.ensures.before)
    (subst (λ faults. AllWithin (λ fault. key_of c.pos.inside.0 c.args.attempt ≤ rank fault) faults c.place_from-place.result (length faults))
    c.as_slice.ensures c.place_from-place.ensures.from)
    (λ x found here same.
    absurd (cc (sym (ap option_copied c.in_default.is) ∙ c.get.ensures ∙ found)))))
