use Rattle.desk_board.proofs.FactsHold.{facts_hold}
use Rattle.desk_board.proofs.laws.rule_law.Goals as goal

pub returns : goal.returns
returns g c = λ plan s r. facts_hold g.J.Job.fits g.J.Job.is_run plan s r
