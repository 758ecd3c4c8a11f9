use Rattle.std.proofs.Common.{rules}
use Rattle.task_parser.specs.inner.ProgramReaders.{read_record_head}
use Rattle.task_parser.proofs.heads.record_head.Goals as goal

pub returns : goal.returns
unfolding read_record_head
returns c =
    rw (
      c.in_ok-word.ensures,
      c.in_ok-array.ensures,
      c.in_ok-from.ensures,
      c.in_ok-rest.ensures,
      c.in_ok-by.ensures,
    ) (search (rules, c.number-size.ensures))
