use Rattle.std.proofs.Common.{◌≡◌, [], ◌∷◌, length}
use Rattle.task_ast.specs.View.{plain_exprs}
use Rattle.task_parser.specs.declared.classes.TheConstants.{COMMA}
use Rattle.task_parser.specs.inner.Classes.{among}
use Rattle.task_parser.specs.inner.Reading.{repeat, read_after, read_separated}
use Rattle.task_parser.specs.inner.ExpressionReaders.{read_expression}
use Rattle.task_parser.proofs.Loop.{also}
use Rattle.task_parser.proofs.operands.exprs.Given as goal

abbrev pub invariant-loop-source : goal.invariant-loop-source
invariant-loop-source l =
    let read = read_expression l.source.text.now l.room in
    also (plain_exprs l.exprs) (repeat (among (COMMA ∷ [])) (read_after COMMA read) l.rest) ≡ read_separated COMMA read l.tokens

abbrev pub decreases-loop-source : goal.decreases-loop-source
decreases-loop-source l = length l.rest
