use Rattle.std.proofs.Common.{◌≡◌, ◌+◌, ◌*◌, length}
use Rattle.task_ast.specs.View.{plain_stmts}
use Rattle.task_parser.specs.inner.Classes.{among}
use Rattle.task_parser.specs.inner.Reading.{repeat}
use Rattle.task_parser.specs.inner.Gives.{starts, read_allowed}
use Rattle.task_parser.proofs.Loop.{also}
use Rattle.task_parser.proofs.statements.+nesting.Given as goal

abbrev pub decreases-block : goal.decreases-block
decreases-block l = l.room * 8

abbrev pub decreases-else_block : goal.decreases-else_block
decreases-else_block l = l.room * 8 + 1

abbrev pub decreases-looping : goal.decreases-looping
decreases-looping l = l.room * 8 + 2

abbrev pub decreases-branching : goal.decreases-branching
decreases-branching l = l.room * 8 + 2

abbrev pub decreases-data_statement : goal.decreases-data_statement
decreases-data_statement l = l.room * 8 + 3

abbrev pub decreases-any_statement : goal.decreases-any_statement
decreases-any_statement l = l.room * 8 + 4

abbrev pub decreases-statement : goal.decreases-statement
decreases-statement l = l.room * 8 + 5

abbrev pub decreases-statements : goal.decreases-statements
decreases-statements l = l.room * 8 + 6

abbrev pub invariant-statements-loop-allowed : goal.invariant-statements-loop-allowed
invariant-statements-loop-allowed l =
    let read = repeat (among (starts l.allowed)) (read_allowed l.allowed l.source.text.now l.room) in
    also (plain_stmts l.statements) (read l.rest) ≡ read l.tokens

abbrev pub decreases-statements-loop-allowed : goal.decreases-statements-loop-allowed
decreases-statements-loop-allowed l = length l.rest
