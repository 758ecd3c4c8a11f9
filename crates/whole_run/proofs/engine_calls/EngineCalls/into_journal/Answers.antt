use Rattle.std.proofs.Common.{ap, subst}
use Rattle.whole_run.specs.Gives.{IsJournalOf}
use Rattle.whole_run.proofs.engine_calls.EngineCalls.into_journal.Goals as goal

pub returns : goal.returns
returns c = subst (λ view. IsJournalOf view c.into_journal.result) (ap (λ e. e.view) c.self.view_is) c.into_journal.ensures
