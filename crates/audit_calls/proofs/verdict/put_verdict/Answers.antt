use Rattle.std.proofs.Common.{subst}
use Rattle.std.proofs.lemmas.Result.{err_from_is_err_and}
use Rattle.gp_audit.specs.declared.verdict.Verdict.{Verdict}
use Rattle.gp_audit.specs.meaning.Answer.{verdict_text, verdict_status}
use Rattle.call_cases.specs.meaning.Answers.{change_of}
use Rattle.call_cases.specs.Answers.{PutFor}
use Rattle.audit_calls.specs.inner.Trials.{tried_in}
use Rattle.audit_calls.proofs.Verdicts.{stopped_memory}
use Rattle.audit_calls.proofs.verdict.put_verdict.Goals as goal

pub returns-in_err-verdict : goal.returns-in_err-verdict
returns-in_err-verdict g c = λ judge.
    let verdict = tried_in judge c.args.trial.now in
    let stopped = err_from_is_err_and c.from_residual.result c.from_residual.ensures.1 in
    stopped_memory (verdict_text verdict) (verdict_status verdict) (g.O.Sink.written c.args.out.now)
    (g.O.Sink.faults c.args.out.now) c.from_residual.result stopped.0 stopped.1 stopped.2

pub returns : goal.returns
returns g c = λ judge.
    let out = change_of g.O.Sink.written g.O.Sink.faults c.args.out.now c.tell.new.out in
    subst (λ (verdict : Verdict). PutFor (verdict_text verdict) (verdict_status verdict) out c.tell.result)
    (c.in_ok-verdict.ensures judge) c.tell.ensures
