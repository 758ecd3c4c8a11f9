use Rattle.audit_calls.proofs.TrialCases as lemmas
use Rattle.audit_calls.proofs.laws.audit_case.Goals as goal

pub returns : goal.returns
returns c = lemmas.audit_case
