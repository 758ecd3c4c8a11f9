use Rattle.std.proofs.Common.{◌≡◌, length, ◌+◌, ◌<◌, ◌≤◌, take, true, sym, subst, ◌∙◌, arith}
use Rattle.std.specs.List.{All}
use Rattle.std.proofs.lemmas.Bool.{false≢true}
use Rattle.dependence.specs.meaning.Conflict.{clash_in}
use Rattle.dependence.specs.meaning.Dependents.{dependents}
use Rattle.gp_audit.specs.Steps.{feet_in}
use Rattle.gp_audit.proofs.RedoLists.{none-before, joins, all-below-front, joins-first, joins-reached, joins-not, found-next, stops, more-false}
use Rattle.gp_audit.proofs.state.Audit.are_dependents.Goals.{then-later-struck+else-not-stands_at, then-later-struck-via-then-later-struck, then-later-struck-via-else-later-struck+then-is_reached, else-later-struck+else-is_reached}
use Rattle.gp_audit.proofs.state.Audit.are_dependents.Goals as goal

pub loop-later-init : goal.loop-later-init
loop-later-init c =
    record {
      same = sym (none-before (clash_in (feet_in c.args.self.now.steps.now)) c.args.struck c.args.struck (omega arith));
      short = omega arith;
      within = λ k d l. absurd (omega arith);
    }

pub returns-then-not-stands_at : goal.returns-then-not-stands_at
returns-then-not-stands_at c =
    let clash = clash_in (feet_in c.args.self.now.steps.now) in
    let so = c.loop-later.invariant in
    let n = c.loop-later.later in
    let found = c.loop-later.found in
    let joined : joins clash c.args.struck n ≡ true = elim c.then-later-struck.branch [
      | then-later-struck-via-then-later-struck w ↦ joins-first clash c.args.struck n w.if-later-struck.true
      | then-later-struck-via-else-later-struck+then-is_reached w ↦
          joins-reached clash c.args.struck n _ so.same (sym w.is_reached.ensures ∙ w.if-is_reached.true)
    ] in
    let end : c.len-later-end.result ≡ length c.args.self.now.seen.items = c.len-later-end.ensures ∙ c.args.self.now.seen.ok.0 in
    let test = c.loop-later-test.true in (
      λ f. absurd (false≢true f),
      λ e. absurd (stops clash c.args.struck n (length c.args.self.now.seen.items) found c.args.redo.now
          (omega arith) so.short so.same joined (λ here. false≢true (sym c.if-not-stands_at.true ∙ c.stands_at.ensures.1 here)) e),
    )

pub loop-later-preserved : goal.loop-later-preserved
loop-later-preserved c =
    let clash = clash_in (feet_in c.args.self.now.steps.now) in
    let struck = c.args.struck in
    let redo = c.args.redo.now in
    let so = c.loop-later.invariant in
    let n = c.loop-later.later in
    let steps = length c.args.self.now.steps.now in
    let end : c.len-later-end.result ≡ length c.args.self.now.seen.items = c.len-later-end.ensures ∙ c.args.self.now.seen.ok.0 in
    let test = c.loop-later-test.true in
    let wide = c.requires.within in
    let low : n + 1 ≤ steps = omega arith in
    elim c.if-later-struck.branch [
      | then-later-struck+else-not-stands_at w ↦
          (let joined : joins clash struck n ≡ true = elim w.then-later-struck.branch [
            | then-later-struck-via-then-later-struck v ↦ joins-first clash struck n v.if-later-struck.true
            | then-later-struck-via-else-later-struck+then-is_reached v ↦
                joins-reached clash struck n _ so.same (sym v.is_reached.ensures ∙ v.if-is_reached.true)
          ] in
          let next = found-next clash struck n c.loop-later.found redo so.same joined (w.stands_at.ensures.0 w.if-not-stands_at.false) in
          let same : take c.if-later-struck.found redo ≡ dependents clash struck (n + 1) =
          subst (λ k. take k redo ≡ dependents clash struck (n + 1)) (sym w.found-is) next.0 in
          record {
            same = same;
            short = subst (λ k. k ≤ length redo) (sym w.found-is) next.1;
            within = subst (λ xs. All (λ p. p < steps) xs) (sym same) (all-below-front clash struck (n + 1) steps low);
          })
      | else-later-struck+else-is_reached w ↦
          (let none = joins-not clash struck n _ so.same w.if-later-struck.false (sym w.is_reached.ensures ∙ w.if-is_reached.false) in
          let same : take c.if-later-struck.found redo ≡ dependents clash struck (n + 1) =
          subst (λ k. take k redo ≡ dependents clash struck (n + 1)) (sym w.found-is)
          (so.same ∙ sym (more-false clash struck n none)) in
          record {
            same = same;
            short = subst (λ k. k ≤ length redo) (sym w.found-is) so.short;
            within = subst (λ xs. All (λ p. p < steps) xs) (sym same) (all-below-front clash struck (n + 1) steps low);
          })
    ]
