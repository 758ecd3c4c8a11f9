use Rattle.std.proofs.Common.{◌≡◌, length}
use Rattle.task_parser.specs.inner.Classes.{among}
use Rattle.task_parser.specs.inner.Reading.{repeat}
use Rattle.task_parser.specs.inner.ProgramReaders.{head_starts, read_head}
use Rattle.task_parser.proofs.Loop.{also}
use Rattle.task_parser.proofs.heads.heads.Given as goal

abbrev pub invariant-loop-source : goal.invariant-loop-source
invariant-loop-source l =
    also l.heads (repeat (among head_starts) (read_head l.source.text.now) l.rest)
    ≡ repeat (among head_starts) (read_head l.source.text.now) l.tokens

abbrev pub decreases-loop-source : goal.decreases-loop-source
decreases-loop-source l = length l.rest
