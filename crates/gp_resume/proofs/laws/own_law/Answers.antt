use Rattle.gp_resume.proofs.OwnRows.{own-fit}
use Rattle.gp_resume.proofs.laws.own_law.Goals as goal

pub returns : goal.returns
returns c = record { own = λ program inputs limits p accepted l. own-fit program inputs limits accepted p }
