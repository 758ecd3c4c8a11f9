use Rattle.std.proofs.Common.{◌≡◌, length, length-set, get_or, ◌+◌, ◌++◌, ◌<◌, ◌≤◌, refl, ap, subst, ◌∙◌, arith}
use Rattle.gp_base.specs.declared.limits.TheConstants.{MOST_FAULTS}
use Rattle.std.proofs.lemmas.List.{take_all}
use Rattle.gp_audit.specs.declared.state.Seen.{Seen}
use Rattle.gp_audit.specs.inner.Audited.{all_raised, where_applied, waits_again}
use Rattle.gp_audit.proofs.Raised.{raised-is, raised-few, seen-there, same-kept, waits-is}
use Rattle.gp_audit.proofs.state.Audit.restart.Goals as goal

pub overflow_add-seen : goal.overflow_add-seen
overflow_add-seen c =
    let i = c.loop-position.position-index in
    let item = c.position-item.result in
    let p = c.position.inside.0 in
    let redo_is = c.as_slice-position-items.ensures in
    let view : p ≡ item = c.position.view_is in
    let test : i < length c.args.restart.now.redo = subst (λ r. i < length r) redo_is c.loop-position-test.true in
    let at : item ≡ get_or c.args.restart.now.redo i item = subst (λ r. item ≡ get_or r i item) redo_is c.position-item.is in
    let low = c.requires.issued i item test in
    let wide = c.loop-position.invariant.wide in
    let within : p < length c.loop-position.self.seen.items = omega arith in
    let same =
    ap (λ (s : Seen). s.attempt) (seen-there c.loop-position.self.seen.items p c.index-seen.result.now within c.index-seen.ensures) in
    let few = c.loop-position.invariant.few p in
    let short = c.requires.short in
    let narrow = c.requires.narrow in
    let most : MOST_FAULTS ≡ 1000 = refl in
    record { fits = omega arith }

pub loop-position-preserved : goal.loop-position-preserved
loop-position-preserved c =
    let now = c.loop-position.self.seen.items in
    let redo = c.args.restart.now.redo in
    let i = c.loop-position.position-index in
    let item = c.position-item.result in
    let p = c.position.inside.0 in
    let s = c.index-seen.result.now in
    let so = c.loop-position.invariant in
    let redo_is = c.as_slice-position-items.ensures in
    let view : p ≡ item = c.position.view_is in
    let test : i < length redo = subst (λ r. i < length r) redo_is c.loop-position-test.true in
    let at : item ≡ get_or redo i item = subst (λ r. item ≡ get_or r i item) redo_is c.position-item.is in
    let low = c.requires.issued i item test in
    let wide = so.wide in
    let within : p < length now = omega arith in
    let same = ap (λ (s : Seen). s.attempt) (seen-there now p s within c.index-seen.ensures) in
    let few = so.few p in
    record {
      raised =
          raised-is (length c.args.self.now.seen.items) c.len-front.result redo i p item c.args.self.now.seen.items now s
          (c.len-front.ensures ∙ c.args.self.now.seen.ok.0) test (view ∙ at) within c.index-seen.ensures so.raised;
      wide = length-set now p _ ∙ wide;
      few = raised-few now p _ (MOST_FAULTS + i) (MOST_FAULTS + (i + 1)) within (omega arith) (omega arith) so.few;
      steps = so.steps;
      faults = so.faults;
      out = so.out;
      waiting =
          c.in_ok-wait_again.ensures
          ∙ (ap (λ xs. xs ++ where_applied s.applied p) so.waiting
          ∙ waits-is (length c.args.self.now.seen.items) redo i p item c.args.self.now.seen.items now s c.args.self.now.waiting.items test
          (view ∙ at) within c.index-seen.ensures so.raised);
      retired = so.retired;
    }

pub returns : goal.returns
returns c =
    let so = c.loop-position.invariant in
    let redo = c.args.restart.now.redo in
    let past : length redo ≤ c.loop-position.position-index =
    subst (λ r. length r ≤ c.loop-position.position-index) c.as_slice-position-items.ensures c.loop-position-test.false in
    same-kept _ _ so.steps so.faults (so.raised
    ∙ ap (λ r. all_raised (length c.args.self.now.seen.items) r c.args.self.now.seen.items)
    (take_all c.loop-position.position-index redo past)) so.out
    (so.waiting ∙ ap (λ r. c.args.self.now.waiting.items
    ++ waits_again (length c.args.self.now.seen.items) r c.args.self.now.seen.items)
    (take_all c.loop-position.position-index redo past)) so.retired
