use Rattle.resume_calls.proofs.JoinedTexts as lemmas
use Rattle.resume_calls.proofs.laws.joined_text.Goals as goal

pub returns : goal.returns
returns c = lemmas.joined_text
