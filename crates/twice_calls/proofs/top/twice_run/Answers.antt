use Rattle.std.proofs.Common.{IfSome, sym, subst}
use Rattle.subthread.specs.meaning.Flaws.{Spares}
use Rattle.twice_calls.proofs.top.twice_run.Goals as goal

pub run_told-requires-clause-spared : goal.run_told-requires-clause-spared
run_told-requires-clause-spared g c κs within = subst (λ recheck. IfSome recheck Spares) (sym c.erring.ensures) c.requires.spared
