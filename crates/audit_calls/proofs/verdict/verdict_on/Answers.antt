use Rattle.std.proofs.lemmas.Result.{IfOk-weaker}
use Rattle.call_cases.specs.Decided.{program_in, work_of}
use Rattle.audit_calls.proofs.Verdicts.{few_steps, verdict_judged}
use Rattle.audit_calls.proofs.verdict.verdict_on.Goals as goal

pub audit-requires-clause-few_steps : goal.audit-requires-clause-few_steps
audit-requires-clause-few_steps c =
    let request = c.args.trial.now.request in
    few_steps (program_in request) request.inputs request.asked.limits c.in_ok-ran.ran.order c.in_ok-ran.ensures.order c.requires.subthreads

pub returns : goal.returns
returns c =
    let trial = c.args.trial.now in
    IfOk-weaker c.audit.result _ _ (λ verdict is judge.
    verdict_judged judge (work_of trial.request) trial.lines c.in_ok-ran.ran.order verdict c.in_ok-ran.ensures.order is)
    c.audit.ensures
