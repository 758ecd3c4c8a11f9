use Rattle.std.proofs.Common.{ap, subst, sym}
use Rattle.whole_run.specs.Gives.{NoneLent, IsReportOf}
use Rattle.whole_run.proofs.engine_calls.EngineCalls.into_report.Goals as goal

pub into_report-requires-clause-home : goal.into_report-requires-clause-home
into_report-requires-clause-home c = subst NoneLent (sym (ap (λ e. e.view) c.self.view_is)) c.requires.home

pub returns : goal.returns
returns c = subst (λ view. IsReportOf view c.args.end c.into_report.result) (ap (λ e. e.view) c.self.view_is) c.into_report.ensures
