use Rattle.std.proofs.Common.{◌≡◌, ◌++◌, ◌∷◌, [], ◌<◌, length, sym, subst, ap, ◌∙◌, arith, true}
use Rattle.std.specs.List.{All}
use Rattle.dependence.specs.meaning.Conflict.{clash_in}
use Rattle.gp_audit.specs.Steps.{feet_in}
use Rattle.gp_audit.proofs.RedoLists.{none-before, joins, all-below-front, joins-first, joins-reached, joins-not, more-true, more-false}
use Rattle.gp_audit.proofs.state.Audit.dependents.Goals.{then-later-struck+in_ok-push, then-later-struck-via-then-later-struck, then-later-struck-via-else-later-struck+then-is_reached, else-later-struck+else-is_reached}
use Rattle.gp_audit.proofs.state.Audit.dependents.Goals as goal

pub loop-later-init : goal.loop-later-init
loop-later-init c =
    let struck = c.requires.struck in
    record {
      redo = c.new-redo.ensures
          ∙ sym (none-before (clash_in (feet_in c.args.self.now.steps.now)) c.args.struck c.args.struck (omega arith));
      early = omega arith;
    }

pub is_reached-requires-clause-redo : goal.is_reached-requires-clause-redo
is_reached-requires-clause-redo c =
    let steps = c.args.self.now.steps.now in
    let end : c.len-later-end.result ≡ length c.args.self.now.seen.items = c.len-later-end.ensures ∙ c.args.self.now.seen.ok.0 in
    let test = c.loop-later-test.true in
    let within = c.requires.within in
    subst (λ xs. All (λ p. p < length steps) xs) (sym (c.as_slice.ensures ∙ c.loop-later.invariant.redo))
    (all-below-front (clash_in (feet_in steps)) c.args.struck c.loop-later.later (length steps) (omega arith))

pub loop-later-preserved : goal.loop-later-preserved
loop-later-preserved c =
    let clash = clash_in (feet_in c.args.self.now.steps.now) in
    let struck = c.args.struck in
    let so = c.loop-later.invariant in
    let n = c.loop-later.later in
    let end : c.len-later-end.result ≡ length c.args.self.now.seen.items = c.len-later-end.ensures ∙ c.args.self.now.seen.ok.0 in
    let test = c.loop-later-test.true in
    elim c.if-later-struck.branch [
      | then-later-struck+in_ok-push w ↦
          (let joined : joins clash struck n ≡ true = elim w.then-later-struck.branch [
            | then-later-struck-via-then-later-struck v ↦ joins-first clash struck n v.if-later-struck.true
            | then-later-struck-via-else-later-struck+then-is_reached v ↦
                joins-reached clash struck n _ (v.as_slice.ensures ∙ so.redo) (sym v.is_reached.ensures ∙ v.if-is_reached.true)
          ] in
          record {
            redo = w.redo-is ∙ w.in_ok-push.ensures.ok ∙ ap (λ l. l ++ n ∷ []) so.redo
                ∙ sym (more-true clash struck n joined);
            early = omega arith;
          })
      | else-later-struck+else-is_reached w ↦
          (let none = joins-not clash struck n _ (w.as_slice.ensures ∙ so.redo) w.if-later-struck.false
          (sym w.is_reached.ensures ∙ w.if-is_reached.false) in
          record { redo = w.redo-is ∙ so.redo ∙ sym (more-false clash struck n none); early = omega arith })
    ]
