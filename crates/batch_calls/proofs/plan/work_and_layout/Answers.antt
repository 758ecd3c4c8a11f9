use Rattle.std.proofs.Common.{IfSome, sym, subst}
use Rattle.subthread.specs.meaning.Flaws.{Spares}
use Rattle.batch_calls.proofs.plan.work_and_layout.Goals as goal

pub returns-clause-spared : goal.returns-clause-spared
returns-clause-spared c = subst (λ recheck. IfSome recheck Spares) (sym c.keep_feeds.ensures) c.requires.spared
