use Rattle.std.proofs.Common.{◌≡◌, [], ◌∷◌, length}
use Rattle.task_parser.specs.declared.classes.TheConstants.{VAR}
use Rattle.task_parser.specs.inner.Classes.{among}
use Rattle.task_parser.specs.inner.Reading.{repeat}
use Rattle.task_parser.specs.inner.ProgramReaders.{read_var_line}
use Rattle.task_parser.proofs.Loop.{also}
use Rattle.task_parser.proofs.tasks.var_lines.Given as goal

abbrev pub invariant-loop-source : goal.invariant-loop-source
invariant-loop-source l =
    also l.lines (repeat (among (VAR ∷ [])) (read_var_line l.source.text.now) l.rest)
    ≡ repeat (among (VAR ∷ [])) (read_var_line l.source.text.now) l.tokens

abbrev pub decreases-loop-source : goal.decreases-loop-source
decreases-loop-source l = length l.rest
