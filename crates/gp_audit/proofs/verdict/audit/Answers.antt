use Rattle.std.proofs.Common.{◌≡◌, ◌≤◌, ◌+◌, List, ◌∷◌, ◌++◌, [], length, take, drop, refl, sym, ap, subst, ◌∙◌, arith, append_assoc}
use Rattle.std.proofs.lemmas.List.{take_all, take_more, take-append-drop, length-take-le}
use Rattle.std.proofs.lemmas.Bool.{false≢true}
use Rattle.gp_base.specs.declared.fault.Fault.{Fault}
use Rattle.dependence.specs.meaning.Journal.{Complete}
use Rattle.dependence.specs.Standing.{AreShort}
use Rattle.gp_audit.specs.declared.verdict.Verdict.TheVariants.{Lawful, Unlawful, Incomplete}
use Rattle.gp_audit.specs.Steps.{dependence_by}
use Rattle.gp_audit.specs.ToldLines.{events_of, TellLawful}
use Rattle.gp_audit.specs.inner.Audited.{Audited, kept, Takes, after_line}
use Rattle.gp_audit.specs.inner.Told.{Told}
use Rattle.gp_audit.proofs.Audits.{told-within, told-noteworthy, told-next, told-stops, told-whole, same-steps, of-given}
use Rattle.gp_audit.proofs.ToldVerdicts.{told-verdict}
use Rattle.gp_audit.proofs.verdict.audit.Goals as goal

pub takes_line-requires-clause-within : goal.takes_line-requires-clause-within
takes_line-requires-clause-within c =
    let so = c.loop-number.invariant in
    let short : AreShort c.loop-number.audit.faults.now =
    subst AreShort (sym so.faults) (λ k d l. (c.args.faults.now.in_range k d l).delay) in
    told-within (kept c.loop-number.audit) _ so.told short

pub takes_line-requires-clause-noteworthy : goal.takes_line-requires-clause-noteworthy
takes_line-requires-clause-noteworthy c =
    let so = c.loop-number.invariant in
    let short : AreShort c.loop-number.audit.faults.now =
    subst AreShort (sym so.faults) (λ k d l. (c.args.faults.now.in_range k d l).delay) in
    told-noteworthy (kept c.loop-number.audit) _ so.told short
    (subst (λ (faults : List Fault). length faults ≤ _) (sym so.faults) c.args.faults.now.few)

pub returns-then-not-branch : goal.returns-then-not-branch
returns-then-not-branch c =
    let so = c.loop-number.invariant in
    let a = kept c.loop-number.audit in
    let i = c.loop-number.number in
    let all = c.as_slice-lines.result.now in
    let before = take i all in
    let line = c.index-lines-number.result in
    let test = c.loop-number-test.true in
    let short : AreShort c.loop-number.audit.faults.now =
    subst AreShort (sym so.faults) (λ k d l. (c.args.faults.now.in_range k d l).delay) in
    let none : ¬ Takes a line = λ takes. false≢true (sym c.if-not-branch.true ∙ c.in_ok-takes_line.ensures.takes.1 takes) in
    let more : take (i + 1) all ≡ before ++ line ∷ [] =
    take_more all i line test ∙ ap (λ l. before ++ l ∷ []) (sym c.index-lines-number.is) in
    let long = length-take-le i all (omega arith) in
    told-verdict (dependence_by c.args.order.now) c.args.faults.now.list c.args.lines.now (Unlawful _)
    (record {
      before = before;
      line = line;
      later = drop (i + 1) all;
      lines_are =
          sym c.as_slice-lines.ensures ∙ (sym (take-append-drop (i + 1) all)
          ∙ (ap (λ l. l ++ drop (i + 1) all) more ∙ append_assoc before (line ∷ []) (drop (i + 1) all)));
      numbered = omega arith;
      lawful =
          of-given (λ steps faults lines. TellLawful (dependence_by steps) faults lines) a.steps c.args.order.now a.faults
          c.args.faults.now.list before before so.steps so.faults refl so.told.lawful;
      unlawful =
          of-given (λ steps faults lines. ¬ TellLawful (dependence_by steps) faults lines) a.steps c.args.order.now a.faults
          c.args.faults.now.list (before ++ line ∷ []) (before ++ line ∷ []) so.steps so.faults refl
          (told-stops a before so.told short line none);
    })

pub loop-number-preserved : goal.loop-number-preserved
loop-number-preserved c =
    let so = c.loop-number.invariant in
    let a = kept c.loop-number.audit in
    let i = c.loop-number.number in
    let all = c.as_slice-lines.result.now in
    let line = c.index-lines-number.result in
    let short : AreShort c.loop-number.audit.faults.now =
    subst AreShort (sym so.faults) (λ k d l. (c.args.faults.now.in_range k d l).delay) in
    let takes : Takes a line = c.in_ok-takes_line.ensures.takes.0 c.if-not-branch.false in
    let noted : kept c.takes_line.new.self ≡ after_line a line = c.in_ok-takes_line.ensures.noted c.if-not-branch.false in
    let next = told-next a (take i all) so.told short line takes in
    let more : take (i + 1) all ≡ take i all ++ line ∷ [] =
    take_more all i line c.loop-number-test.true ∙ ap (λ l. take i all ++ l ∷ []) (sym c.index-lines-number.is) in
    record {
      steps = ap (λ (x : Audited). x.steps) noted ∙ ((same-steps a line).0 ∙ so.steps);
      faults = ap (λ (x : Audited). x.faults) noted ∙ ((same-steps a line).1 ∙ so.faults);
      told =
          subst (λ lines. Told (kept c.takes_line.new.self) lines) (sym more)
          (subst (λ x. Told x (take i all ++ line ∷ [])) (sym noted) next);
    }

pub returns-then-is_whole : goal.returns-then-is_whole
returns-then-is_whole c =
    let so = c.loop-number.invariant in
    let a = kept c.loop-number.audit in
    let all = c.as_slice-lines.result.now in
    let lines = take c.loop-number.number all in
    let whole : lines ≡ c.args.lines.now = take_all c.loop-number.number all c.loop-number-test.false ∙ c.as_slice-lines.ensures in
    let short : AreShort c.loop-number.audit.faults.now =
    subst AreShort (sym so.faults) (λ k d l. (c.args.faults.now.in_range k d l).delay) in
    told-verdict (dependence_by c.args.order.now) c.args.faults.now.list c.args.lines.now Lawful (
      of-given (λ steps faults lines. TellLawful (dependence_by steps) faults lines) a.steps c.args.order.now a.faults
          c.args.faults.now.list lines c.args.lines.now so.steps so.faults whole so.told.lawful,
      of-given (λ steps faults lines. Complete (dependence_by steps) faults (events_of lines)) a.steps c.args.order.now a.faults
          c.args.faults.now.list lines c.args.lines.now so.steps so.faults whole
          ((told-whole a lines so.told short).0 (sym c.is_whole.ensures ∙ c.if-is_whole.true)),
    )

pub returns : goal.returns
returns c =
    let so = c.loop-number.invariant in
    let a = kept c.loop-number.audit in
    let all = c.as_slice-lines.result.now in
    let lines = take c.loop-number.number all in
    let whole : lines ≡ c.args.lines.now = take_all c.loop-number.number all c.loop-number-test.false ∙ c.as_slice-lines.ensures in
    let short : AreShort c.loop-number.audit.faults.now =
    subst AreShort (sym so.faults) (λ k d l. (c.args.faults.now.in_range k d l).delay) in
    told-verdict (dependence_by c.args.order.now) c.args.faults.now.list c.args.lines.now Incomplete (
      of-given (λ steps faults lines. TellLawful (dependence_by steps) faults lines) a.steps c.args.order.now a.faults
          c.args.faults.now.list lines c.args.lines.now so.steps so.faults whole so.told.lawful,
      of-given (λ steps faults lines. ¬ Complete (dependence_by steps) faults (events_of lines)) a.steps c.args.order.now a.faults
          c.args.faults.now.list lines c.args.lines.now so.steps so.faults whole
          (λ complete. false≢true (sym c.if-is_whole.false ∙ (c.is_whole.ensures ∙ (told-whole a lines so.told short).1 complete))),
    )
