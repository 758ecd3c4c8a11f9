use Rattle.whole_run.proofs.IssuesKept.{kept_passes, passes_fall}
use Rattle.whole_run.proofs.parts.issuing.pass_waiting.Goals as goal

pub returns-clause-kept : goal.returns-clause-kept
returns-clause-kept c = kept_passes _ _ _ _ _ _ _ _ _ _ _ c.requires.kept c.pass_waiting.ensures.passes

pub returns-clause-fewer : goal.returns-clause-fewer
returns-clause-fewer c = passes_fall _ _ c.pass_waiting.ensures.passes
