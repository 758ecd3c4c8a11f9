use Rattle.std.proofs.Common.{arith, sym, ◌∙◌, ap, subst, ◌≤◌}
use Rattle.std.specs.Option.{option_copied}
use Rattle.whole_run.specs.inner.Kept.{batch_in}
use Rattle.whole_run.proofs.IssuesKept.{ahead_inside, is_numbered, unknown_ahead, not_prepared, prepared_for}
use Rattle.whole_run.proofs.parts.issuing.prepare.Goals as goal

pub prepare_for-requires-clause-exists : goal.prepare_for-requires-clause-exists
prepare_for-requires-clause-exists c =
    let inside = ahead_inside c.args.parts.now.ring.table c.in-Some.thread c.in-Some-next_of.begins.now c.in-Some.ensures
    c.in-Some-next_of.ensures in
    let same = c.requires.places in
    omega arith

pub prepare_for-requires-clause-numbered : goal.prepare_for-requires-clause-numbered
prepare_for-requires-clause-numbered c =
    is_numbered c.in-Some-next_of.begins.now.sync c.args.parts.now.ring.table
    (subst (λ n. n ≤ 4096) c.requires.places c.requires.few) (sym c.if-not-lets.ensures)

pub returns-in_default-next_of : goal.returns-in_default-next_of
returns-in_default-next_of c =
    unknown_ahead (batch_in c.args.plan.now) c.args.parts.now.ring.table c.args.parts.now.places.items c.in-Some.thread c.in-Some.ensures
    (sym (ap (λ o. option_copied o) c.in_default-next_of.is) ∙ c.next_of.ensures)

pub returns-then-not-lets : goal.returns-then-not-lets
returns-then-not-lets c =
    not_prepared (batch_in c.args.plan.now) c.args.parts.now.ring.table c.args.parts.now.places.items c.in-Some.thread
    c.in-Some-next_of.begins.now c.in-Some.ensures c.in-Some-next_of.ensures
    (sym c.if-not-lets.ensures)

pub returns : goal.returns
returns c =
    prepared_for (batch_in c.args.plan.now) c.args.parts.now.ring.table c.args.parts.now.places.items c.in-Some.thread
    c.in-Some-next_of.begins.now
    c.in-Some.ensures c.in-Some-next_of.ensures c.in_ok-prepared.prepared c.in_ok-prepared.ensures
