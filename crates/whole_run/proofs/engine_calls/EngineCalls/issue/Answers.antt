use Rattle.std.proofs.Common.{ap, subst, sym}
use Rattle.dependence.specs.meaning.Restarts.{NoneDue}
use Rattle.whole_run.specs.View.{now}
use Rattle.whole_run.proofs.engine_calls.EngineCalls.issue.Goals as goal

pub issue-requires-clause-none_due : goal.issue-requires-clause-none_due
issue-requires-clause-none_due c = subst (λ view. NoneDue view.batch.faults (now view).progress)
    (sym (ap (λ e. e.view) c.self.view_is)) c.requires.none_due
