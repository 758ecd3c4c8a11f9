use Rattle.std.proofs.Common.{Some, sym, ◌∙◌, arith}
use Rattle.std.proofs.lemmas.Result.{on_ok_weaker}
use Rattle.gp_audit.specs.inner.Audited.{kept}
use Rattle.gp_audit.proofs.Audits.{restart-low, restart-short}
use Rattle.gp_audit.proofs.Replaying.{struck-low, few-attempts, stays-last, issue-advances, restart-advances}
use Rattle.gp_audit.proofs.state.Audit.advance.Goals as goal

pub restart_of-requires-clause-struck : goal.restart_of-requires-clause-struck
restart_of-requires-clause-struck c =
    struck-low (kept c.args.self.now) c.args.made.now c.requires.replays c.in-Some.struck (sym c.struck_next.ensures ∙ c.in-Some.is)

pub restart_of-requires-clause-few : goal.restart_of-requires-clause-few
restart_of-requires-clause-few c =
    let few = few-attempts (kept c.args.self.now) c.args.made.now c.requires.replays c.in-Some.struck in
    let most = c.requires.few in
    omega arith

pub restart-requires-clause-issued : goal.restart-requires-clause-issued
restart-requires-clause-issued c =
    restart-low (kept c.args.self.now) c.in_ok-restart-in-Some.restart (Some c.in-Some.struck) c.in_ok-restart-in-Some.ensures

pub restart-requires-clause-short : goal.restart-requires-clause-short
restart-requires-clause-short c =
    restart-short (kept c.args.self.now) c.in_ok-restart-in-Some.restart (Some c.in-Some.struck) c.in_ok-restart-in-Some.ensures

pub restart-requires-clause-few : goal.restart-requires-clause-few
restart-requires-clause-few c p =
    let few = few-attempts (kept c.args.self.now) c.args.made.now c.requires.replays p in
    let most = c.requires.few in
    omega arith

pub returns-in_ok-restart-in-Some-2 : goal.returns-in_ok-restart-in-Some-2
returns-in_ok-restart-in-Some-2 c =
    on_ok_weaker c.push.result
    (restart-advances (kept c.args.self.now) c.args.made.now
    (kept c.restart.new.self) c.push.new.self c.in-Some.struck c.in_ok-restart-in-Some.restart c.requires.replays
    (sym c.struck_next.ensures ∙ c.in-Some.is) c.in_ok-restart-in-Some.ensures c.in_ok-restart-in-Some-2.ensures)
    c.push.ensures.ok

pub returns-in-None : goal.returns-in-None
returns-in-None c =
    stays-last (kept c.args.self.now) c.args.made.now c.requires.replays (sym c.struck_next.ensures ∙ c.in-None.is)
    (sym c.is_last.ensures ∙ c.if-is_last.true)

pub returns-in-None-2 : goal.returns-in-None-2
returns-in-None-2 c =
    on_ok_weaker c.issue.result
    (issue-advances (kept c.args.self.now) c.args.made.now (kept c.issue.new.self) _ c.requires.replays
    (sym c.struck_next.ensures ∙ c.in-None-2.is) (sym c.is_last.ensures ∙ c.if-is_last.false)
    (c.len-front.ensures ∙ c.args.self.now.seen.ok.0))
    c.issue.ensures
