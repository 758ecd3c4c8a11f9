use Rattle.std.proofs.Common.{rules}
use Rattle.task_parser.specs.inner.ProgramReaders.{read_barrier_head}
use Rattle.task_parser.proofs.heads.barrier_head.Goals as goal

pub returns : goal.returns
unfolding read_barrier_head
returns c = rw c.in_ok-word.ensures (search (rules, c.number-number.ensures))
