use Rattle.resume_calls.proofs.HaltedCases as lemmas
use Rattle.resume_calls.proofs.laws.resume_case.Goals as goal

pub returns : goal.returns
returns c = lemmas.resume_case
