use Rattle.whole_run.proofs.Crews.{did-task}
use Rattle.whole_run.proofs.laws.task_kept_law.Goals as goal

pub returns : goal.returns
returns c view after e task stands did t untaken = did-task view after e stands did task t untaken
