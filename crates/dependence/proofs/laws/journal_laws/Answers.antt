use Rattle.dependence.specs.meaning.Journal.{initial_stage}
use Rattle.dependence.proofs.Journals.{LawfulFrom-front, LawfulFrom-push, stage_from-push, restarts-first, restarts-next, restarts-all}
use Rattle.dependence.proofs.laws.journal_laws.Goals as goal

pub returns : goal.returns
returns c = record {
  front = λ dependence faults. LawfulFrom-front dependence faults initial_stage;
  grow = λ dependence faults. LawfulFrom-push dependence faults initial_stage;
  stage = λ dependence faults. stage_from-push dependence faults initial_stage;
  first = λ dependence faults events clean. restarts-first dependence faults clean events;
  next = λ dependence faults events clean. restarts-next dependence faults clean events;
  all = λ dependence faults events clean. restarts-all dependence faults clean events;
}
