use Rattle.std.proofs.Common.{◌≡◌, ◌+◌, ◌*◌, length}
use Rattle.task_ast.specs.View.{plain_members}
use Rattle.task_parser.specs.inner.Classes.{among}
use Rattle.task_parser.specs.inner.Reading.{repeat}
use Rattle.task_parser.specs.inner.ExpressionReaders.{read_member}
use Rattle.task_parser.specs.inner.Gives.{operators, read_part}
use Rattle.task_parser.proofs.Levels.{tighter}
use Rattle.task_parser.proofs.Loop.{also}
use Rattle.task_parser.proofs.expressions.+descent.Given as goal

abbrev pub decreases-named : goal.decreases-named
decreases-named l = l.room * 64 + 1

abbrev pub decreases-negated : goal.decreases-negated
decreases-negated l = l.room * 64

abbrev pub decreases-closed : goal.decreases-closed
decreases-closed l = l.room * 64 + 31

abbrev pub decreases-group : goal.decreases-group
decreases-group l = l.room * 64

abbrev pub decreases-place : goal.decreases-place
decreases-place l = l.room * 64

abbrev pub decreases-operand : goal.decreases-operand
decreases-operand l = l.room * 64 + 2

abbrev pub decreases-part : goal.decreases-part
decreases-part l = l.room * 64 + (3 + 6 * tighter l.level)

abbrev pub decreases-member : goal.decreases-member
decreases-member l = l.room * 64 + (4 + 6 * tighter l.level)

abbrev pub decreases-members : goal.decreases-members
decreases-members l = l.room * 64 + (5 + 6 * tighter l.level)

abbrev pub decreases-chain : goal.decreases-chain
decreases-chain l = l.room * 64 + (6 + 6 * tighter l.level)

abbrev pub decreases-comparison : goal.decreases-comparison
decreases-comparison l = l.room * 64 + 18

abbrev pub invariant-members-loop-level : goal.invariant-members-loop-level
invariant-members-loop-level l =
    let read = repeat (among (operators l.level)) (read_member (operators l.level) (read_part l.level l.source.text.now l.room)) in
    also (plain_members l.members) (read l.rest) ≡ read l.tokens

abbrev pub decreases-members-loop-level : goal.decreases-members-loop-level
decreases-members-loop-level l = length l.rest
