use Rattle.std.proofs.Common.{refl, sym, ap, ◌∙◌, arith}
use Rattle.task_ast.specs.Turn.{turn}
use Rattle.task_ast.specs.laws.Standing.{at_once, by_turn}
use Rattle.task_ast.proofs.Turns.{turn-IsFalling}
use Rattle.gp_resume.proofs.Besides.{keeps-on, past-on, first-joins}
use Rattle.gp_resume.proofs.TurnsTaken.{needs-none, has-ended, may-issue, gives-next}
use Rattle.gp_resume.proofs.course.Course.next.Goals as goal

pub turning-init : goal.turning-init
turning-init c = record { passed = at_once; spots = refl; store = refl; issued = refl }

pub turning-smaller : goal.turning-smaller
turning-smaller c =
    turn-IsFalling.falls _ _ (ap turn (sym (c.clear.ensures.table ∙ c.in_ok-reserve.ensures.table)) ∙ c.in-Pass.ensures.turned.1)

pub turning-preserved : goal.turning-preserved
turning-preserved c = record {
  passed = by_turn c.turning.invariant.passed
      (ap turn (sym (c.clear.ensures.table ∙ c.in_ok-reserve.ensures.table)) ∙ c.in-Pass.ensures.turned.1);
  spots = c.turning.invariant.spots;
  store = c.turning.invariant.store;
  issued = c.turning.invariant.issued;
}

pub unreachable-requires-in-Needs : goal.unreachable-requires-in-Needs
unreachable-requires-in-Needs c =
    needs-none c.args.plan.now c.requires.suits c.requires.stands.1.before c.turning.self (keeps-on c.requires.stands.1.kept c.turning.invariant) c.requires.stands.0 c.requires.stands.1.stands
    c.in-Needs.field-0 (ap turn (sym (c.clear.ensures.table ∙ c.in_ok-reserve.ensures.table)) ∙ c.in-Needs.ensures.turned.1.0)

pub returns-in-Ended-clause-gives : goal.returns-in-Ended-clause-gives
returns-in-Ended-clause-gives c = λ x past.
    has-ended c.args.plan.now c.requires.suits past.before c.turning.self (keeps-on past.kept c.turning.invariant) x past.stands
    c.in-Ended.end c.turn.new.self
    (ap turn (sym (c.clear.ensures.table ∙ c.in_ok-reserve.ensures.table)) ∙ c.in-Ended.ensures.turned.1.0)

pub prove-unreachable-requires : goal.prove-unreachable-requires
prove-unreachable-requires c =
    let below =
    (may-issue c.args.plan.now c.requires.suits c.requires.stands.1.before c.turning.self (keeps-on c.requires.stands.1.kept c.turning.invariant) c.requires.stands.0 c.requires.stands.1.stands
    c.in-Issue.thread c.in-Issue.begins c.in-Issue.child c.turn.new.self
    (ap turn (sym (c.clear.ensures.table ∙ c.in_ok-reserve.ensures.table)) ∙ c.in-Issue.ensures.turned.1)).2 in
    let not-below = c.if-prove.true in
    omega arith

pub issue-requires-clause-there : goal.issue-requires-clause-there
issue-requires-clause-there c =
    (may-issue c.args.plan.now c.requires.suits c.requires.stands.1.before c.turning.self (keeps-on c.requires.stands.1.kept c.turning.invariant) c.requires.stands.0 c.requires.stands.1.stands
    c.in-Issue.thread c.in-Issue.begins c.in-Issue.child c.turn.new.self
    (ap turn (sym (c.clear.ensures.table ∙ c.in_ok-reserve.ensures.table)) ∙ c.in-Issue.ensures.turned.1)).0

pub issue-requires-clause-few : goal.issue-requires-clause-few
issue-requires-clause-few c =
    (may-issue c.args.plan.now c.requires.suits c.requires.stands.1.before c.turning.self (keeps-on c.requires.stands.1.kept c.turning.invariant) c.requires.stands.0 c.requires.stands.1.stands
    c.in-Issue.thread c.in-Issue.begins c.in-Issue.child c.turn.new.self
    (ap turn (sym (c.clear.ensures.table ∙ c.in_ok-reserve.ensures.table)) ∙ c.in-Issue.ensures.turned.1)).1

pub returns-in-Issue-clause-gives : goal.returns-in-Issue-clause-gives
returns-in-Issue-clause-gives c = λ x past.
    gives-next c.args.plan.now c.requires.suits past.before c.turning.self (keeps-on past.kept c.turning.invariant) x past.stands
    c.in-Issue.thread c.in-Issue.begins c.in-Issue.child c.turn.new.self
    (ap turn (sym (c.clear.ensures.table ∙ c.in_ok-reserve.ensures.table)) ∙ c.in-Issue.ensures.turned.1)
    c.issue.new.self c.in_ok-begun-in-Issue.begun c.in_ok-begun-in-Issue.ensures

pub returns-in-Issue-clause-first : goal.returns-in-Issue-clause-first
returns-in-Issue-clause-first c = λ x past.
    first-joins c.args.plan.now c.requires.suits x c.turning.self
    (past-on c.args.plan.now x c.args.self.now c.turning.self past c.turning.invariant)
    c.in-Issue.thread c.in-Issue.begins c.in-Issue.child c.turn.new.self
    (ap turn (sym (c.clear.ensures.table ∙ c.in_ok-reserve.ensures.table)) ∙ c.in-Issue.ensures.turned.1)
    c.issue.new.self c.in_ok-begun-in-Issue.begun c.in_ok-begun-in-Issue.ensures
