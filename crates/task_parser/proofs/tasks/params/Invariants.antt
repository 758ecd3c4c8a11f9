use Rattle.std.proofs.Common.{◌≡◌, [], ◌∷◌, length}
use Rattle.task_parser.specs.declared.classes.TheConstants.{COMMA}
use Rattle.task_parser.specs.inner.Classes.{among}
use Rattle.task_parser.specs.inner.Reading.{repeat, read_after, read_separated}
use Rattle.task_parser.specs.inner.ProgramReaders.{read_param}
use Rattle.task_parser.proofs.Loop.{also}
use Rattle.task_parser.proofs.tasks.params.Given as goal

abbrev pub invariant-loop-source : goal.invariant-loop-source
invariant-loop-source l =
    also l.params (repeat (among (COMMA ∷ [])) (read_after COMMA (read_param l.source.text.now)) l.rest)
    ≡ read_separated COMMA (read_param l.source.text.now) l.tokens

abbrev pub decreases-loop-source : goal.decreases-loop-source
decreases-loop-source l = length l.rest
