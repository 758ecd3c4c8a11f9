use Rattle.std.proofs.Common.{rules}
use Rattle.task_parser.specs.inner.ProgramReaders.{read_feed_head}
use Rattle.task_parser.proofs.heads.feed_head.Goals as goal

pub returns : goal.returns
unfolding read_feed_head
returns c =
    rw (
      c.in_ok-word.ensures,
      c.in_ok-quoted.ensures,
      c.in_ok-rest.ensures,
      c.in_ok-from.ensures,
    ) (search (rules, c.number-fields.ensures))
