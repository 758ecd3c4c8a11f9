use Rattle.call_cases.specs.Decided.{program_in, work_of}
use Rattle.audit_calls.proofs.Verdicts.{few_steps, verdict_is}
use Rattle.view_calls.proofs.reading.first_unlawful.Goals as goal

pub audit-requires-clause-few_steps : goal.audit-requires-clause-few_steps
audit-requires-clause-few_steps c =
    let request = c.args.request.now in
    few_steps (program_in request) request.inputs request.asked.limits c.in_ok-ran.ran.order c.in_ok-ran.ensures.order
    c.requires.within.few_subthreads

pub returns : goal.returns
returns c = (
  c.in_ok-verdict.verdict,
  verdict_is (work_of c.args.request.now) c.args.lines.now c.in_ok-ran.ran.order c.in_ok-verdict.verdict c.in_ok-ran.ensures.order
      c.in_ok-verdict.ensures,
  c.unlawful_in.ensures,
)
