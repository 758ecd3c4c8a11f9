use Rattle.std.proofs.Common.{IfSome, sym, subst}
use Rattle.subthread.specs.meaning.Flaws.{Spares}
use Rattle.twice_calls.proofs.log.twice_log_run.Goals as goal

pub log_told-requires-clause-spared : goal.log_told-requires-clause-spared
log_told-requires-clause-spared g c κs within = subst (λ recheck. IfSome recheck Spares) (sym c.erring.ensures) c.requires.spared
