use Rattle.std.proofs.Common.{refl}
use Rattle.task_parser.specs.inner.ProgramReaders.{read_task}
use Rattle.task_parser.proofs.tasks.task.Goals as goal

pub returns : goal.returns
unfolding read_task
returns c =
    rw (
      c.in_ok-word.ensures,
      c.in_ok-vars.ensures,
      c.in_ok-body.ensures,
      c.in_ok-rest.ensures,
    ) refl
