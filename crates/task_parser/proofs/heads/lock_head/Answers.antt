use Rattle.std.proofs.Common.{rules}
use Rattle.task_parser.specs.inner.ProgramReaders.{read_lock_head}
use Rattle.task_parser.proofs.heads.lock_head.Goals as goal

pub returns : goal.returns
unfolding read_lock_head
returns c = rw c.in_ok-word.ensures (search (rules, c.number-size.ensures))
