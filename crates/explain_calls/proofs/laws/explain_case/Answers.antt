use Rattle.explain_calls.proofs.OwnCases as lemmas
use Rattle.explain_calls.proofs.laws.explain_case.Goals as goal

pub returns : goal.returns
returns c = lemmas.explain_case
