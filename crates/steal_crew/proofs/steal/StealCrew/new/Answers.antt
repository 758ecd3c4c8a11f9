use Rattle.std.proofs.Common.{rules}
use Rattle.std.proofs.lemmas.List.Elements.{All-nil}
use Rattle.subthread.specs.Tasks.{IsRun}
use Rattle.steal_crew.proofs.steal.StealCrew.new.Goals as goal

pub returns-clause-ready : goal.returns-clause-ready
returns-clause-ready g c = record {
  runs_all = rw c.new.ensures c.requires;
  are_runs = rw c.new-2.ensures.items (All-nil (IsRun c.new.result.work));
  counted = λ _. search rules;
  no_more = search rules;
}
