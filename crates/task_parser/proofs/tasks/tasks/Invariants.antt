use Rattle.std.proofs.Common.{◌≡◌, [], ◌∷◌, length, map}
use Rattle.task_ast.specs.View.{plain_task}
use Rattle.task_parser.specs.declared.classes.TheConstants.{TASK}
use Rattle.task_parser.specs.inner.Classes.{among}
use Rattle.task_parser.specs.inner.Reading.{repeat, read_some}
use Rattle.task_parser.specs.inner.ProgramReaders.{read_task}
use Rattle.task_parser.proofs.Loop.{also}
use Rattle.task_parser.proofs.tasks.tasks.Given as goal

abbrev pub invariant-loop-source : goal.invariant-loop-source
invariant-loop-source l =
    also (map plain_task l.tasks) (repeat (among (TASK ∷ [])) (read_task l.source.text.now l.room) l.rest)
    ≡ read_some (among (TASK ∷ [])) (read_task l.source.text.now l.room) l.tokens

abbrev pub decreases-loop-source : goal.decreases-loop-source
decreases-loop-source l = length l.rest
