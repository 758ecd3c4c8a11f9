use Rattle.rollback.proofs.Backs.{settle-cuts, cut-rises, cut-again}
use Rattle.rollback.proofs.laws.cut_laws.Goals as goal

pub returns : goal.returns
returns c = record { settles = settle-cuts; rises = cut-rises; again = cut-again }
