use Rattle.dependence.specs.meaning.Journal.{initial_stage}
use Rattle.rollback.proofs.Standing.{initial-blocks, keeps-retired, happens-blocks, blocks-from, one-block, later-waits, first-posts}
use Rattle.rollback.proofs.laws.standing_laws.Goals as goal

pub returns : goal.returns
returns c = record {
  initial = initial-blocks;
  keeps = keeps-retired;
  event = λ cuts dependence faults at event settled short. happens-blocks cuts dependence faults settled short at event;
  journal = λ cuts dependence faults events settled short.
      blocks-from cuts dependence faults settled short initial_stage events (initial-blocks cuts dependence faults);
  block = one-block;
  waits = later-waits;
  posts = first-posts;
}
