use Rattle.audit_calls.proofs.TracesJudged as lemmas
use Rattle.audit_calls.proofs.laws.trace_law.Goals as goal

pub returns : goal.returns
returns c = lemmas.trace_law
