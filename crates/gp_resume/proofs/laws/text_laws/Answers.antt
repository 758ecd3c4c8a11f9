use Rattle.gp_resume.proofs.Texts.{bytes-known, joined}
use Rattle.gp_resume.proofs.laws.text_laws.Goals as goal

pub returns : goal.returns
returns c = record { bytes = bytes-known; joined = joined }
