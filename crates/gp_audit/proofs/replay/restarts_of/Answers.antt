use Rattle.std.proofs.Common.{◌≡◌, ◌+◌, suc, [], length, sym, ap, subst, ◌∙◌, arith}
use Rattle.dependence.specs.meaning.Restarts.{Progress, progress, advance}
use Rattle.gp_audit.specs.Steps.{dependence_by}
use Rattle.gp_audit.specs.inner.Audited.{Audited, kept, nothing_seen}
use Rattle.gp_audit.specs.inner.Replayed.{Replays, progress_in}
use Rattle.gp_audit.proofs.Replaying.{nothing-replays, few-made}
use Rattle.gp_audit.proofs.replay.restarts_of.Goals as goal

pub loop-init : goal.loop-init
loop-init c =
    let start : kept c.new-audit.result ≡ nothing_seen c.args.order.now c.args.faults.now.list =
    c.new-audit.ensures ∙ (λ i. nothing_seen (c.as_slice.ensures i) (c.as_slice-2.ensures i)) in
    record {
      steps = ap (λ (a : Audited). a.steps) start;
      faults = ap (λ (a : Audited). a.faults) start;
      replays =
          subst (Replays (kept c.new-audit.result)) (sym c.new-made.ensures)
          (subst (λ a. Replays a []) (sym start) (nothing-replays c.args.order.now c.args.faults.now.list));
      progress_is = λ i. progress_in (start i) (c.new-made.ensures i);
    }

pub advance-requires-clause-replays : goal.advance-requires-clause-replays
advance-requires-clause-replays c = c.loop.invariant.replays

pub advance-requires-clause-few : goal.advance-requires-clause-few
advance-requires-clause-few c =
    let made = ap (λ (p : Progress). length p.made) c.loop.invariant.progress_is in
    let few = few-made c.args.order.now c.args.faults.now.list c.loop.counter in
    let most = c.args.faults.now.few in
    omega (arith, made, few, most)

pub loop-preserved : goal.loop-preserved
loop-preserved c =
    let so = c.loop.invariant in
    let next = c.in_ok-advance.ensures in
    let more : suc c.loop.counter ≡ c.loop.counter + 1 = omega arith in
    record {
      steps = next.steps ∙ so.steps;
      faults = next.faults ∙ so.faults;
      replays = next.replays;
      progress_is =
          next.progress ∙ (λ i. advance (dependence_by (so.steps i)) (so.faults i) (so.progress_is i))
          ∙ ap (progress (dependence_by c.args.order.now) c.args.faults.now.list) more;
    }

pub returns : goal.returns
returns c =
    let dependence = dependence_by c.args.order.now in
    let faults = c.args.faults.now.list in
    let past = c.loop-test.false in
    let within = c.loop.auto.counter-end in
    let count = c.len.ensures in
    let more = ap length c.as_slice-3.ensures in
    let ended : c.loop.counter ≡ length c.args.order.now + length faults = omega (arith, past, within, count, more) in
    ap (λ (p : Progress). p.made) c.loop.invariant.progress_is ∙ ap (λ k. (progress dependence faults k).made) ended
