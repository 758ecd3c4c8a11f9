use Rattle.std.proofs.Common.{refl, subst}
use Rattle.task_ast.proofs.Turns.{turn-IsFalling}
use Rattle.whole_run.specs.inner.Kept.{batch_in}
use Rattle.whole_run.specs.inner.Prepared.{IsReadyFor}
use Rattle.whole_run.proofs.IssuesKept.{kept_passed, kept_ended, ends_so, needs_so, turns_so, settle_turns, next_is, few_issued, prepared_some, kept_pushed, did_issue, none_left, kept_settling, settles_so, some_left}
use Rattle.whole_run.proofs.parts.issuing.turn.Goals as goal

pub returns-in-Pass-clause-kept : goal.returns-in-Pass-clause-kept
returns-in-Pass-clause-kept c = kept_passed _ _ _ _ _ _ _ _ _ _ c.requires.kept _ c.in-Pass.ensures.turned.1

pub returns-in-Pass-clause-gives : goal.returns-in-Pass-clause-gives
returns-in-Pass-clause-gives c = (refl, turn-IsFalling.falls _ _ c.in-Pass.ensures.turned.1)

pub returns-in-Needs-clause-gives : goal.returns-in-Needs-clause-gives
returns-in-Needs-clause-gives c = (
  refl,
  needs_so _ _ _ _ _ _ _ _ _ _ c.requires.kept c.in-Needs.thread c.in-Needs.ensures.turned.1.0,
  turns_so _ _ _ _ _ _ _ _ _ _ c.requires.kept _ c.in-Needs.ensures.turned.1.0,
)

pub returns-in-Ended-clause-kept : goal.returns-in-Ended-clause-kept
returns-in-Ended-clause-kept c = rw (c.in-Ended.ensures.turned.1.1, c.halted.ensures)
    (kept_ended _ _ _ _ _ _ _ _ _ _ c.requires.kept c.in-Ended.end c.in-Ended.ensures.turned.1.0)

pub returns-in-Ended-clause-gives : goal.returns-in-Ended-clause-gives
returns-in-Ended-clause-gives c =
    let h = ends_so _ _ _ _ _ _ _ _ _ _ c.requires.kept c.in-Ended.end c.in-Ended.ensures.turned.1.0 in
    (rw c.halted.ensures refl, h.0, h.1, turns_so _ _ _ _ _ _ _ _ _ _ c.requires.kept _ c.in-Ended.ensures.turned.1.0)

pub returns-in-Settles-clause-kept : goal.returns-in-Settles-clause-kept
returns-in-Settles-clause-kept c = rw c.in-Settles.ensures.turned.2
    (kept_settling _ _ _ _ _ _ _ _ _ _ c.requires.kept c.in-Settles.thread c.in-Settles.ensures.turned.1)

pub returns-in-Settles-clause-gives : goal.returns-in-Settles-clause-gives
returns-in-Settles-clause-gives c = (
  refl,
  settles_so _ _ _ _ _ _ _ _ _ _ c.requires.kept c.in-Settles.thread c.in-Settles.ensures.turned.1,
  some_left _ _ _ _ _ _ _ _ _ _ c.requires.kept _ c.len-alone.ensures c.in-Settles.ensures.turned.0,
  settle_turns _ _ _ _ _ _ _ _ _ _ c.requires.kept c.in-Settles.thread c.in-Settles.ensures.turned.1,
)

pub unwrap-requires : goal.unwrap-requires
unwrap-requires c = prepared_some _ _ c.requires.kept _ _ _ _ c.in-Issue.ensures.turned.1 _ c.requires.ready

pub push-pos-requires-clause-next : goal.push-pos-requires-clause-next
push-pos-requires-clause-next c = next_is _ _ _ _ _ _ _ _ _ _ c.requires.kept

pub push-pos-requires-clause-few : goal.push-pos-requires-clause-few
push-pos-requires-clause-few c = few_issued _ _ _ _ _ _ _ _ _ _ c.requires.kept _ _ _ _ c.in-Issue.ensures.turned.1

pub returns-in-Issue-clause-kept : goal.returns-in-Issue-clause-kept
returns-in-Issue-clause-kept c =
    kept_pushed _ _ c.requires.kept _ _ _ _ c.in-Issue.ensures.turned.1 _
    (none_left _ _ c.len-alone.ensures) c.in-Issue.ensures.turned.0 c.requires.none_due c.unwrap.result
    (subst (IsReadyFor (batch_in c.args._plan.now) c.args.parts.now) c.unwrap.ensures c.requires.ready) c.ring_turn.new.ring refl _
    (rw c.settled-ready.ensures at c.push-pos.ensures.parts)

pub returns-in-Issue-clause-gives : goal.returns-in-Issue-clause-gives
returns-in-Issue-clause-gives c = (
  did_issue _ c.args.parts.now c.requires.kept _ _ _ _ c.in-Issue.ensures.turned.1 _
      (none_left _ _ c.len-alone.ensures) c.in-Issue.ensures.turned.0 c.requires.none_due c.unwrap.result c.ring_turn.new.ring
      c.push-pos.new.parts _ c.push-pos.ensures.pos
      (rw c.settled-ready.ensures at c.push-pos.ensures.parts),
  record {
    thread = _;
    begins = _;
    child = _;
    later = _;
    turns = turns_so _ _ _ _ _ _ _ _ _ _ c.requires.kept _ c.in-Issue.ensures.turned.1;
  },
)
