use Rattle.view_calls.proofs.ViewCases as lemmas
use Rattle.view_calls.proofs.laws.view_case.Goals as goal

pub returns : goal.returns
returns c = lemmas.view_case
