-- What the program of a text is shaped like.
use Rattle.std.specs.Prelude.{IsTrue}
use Rattle.task_ast.specs.meaning.Tree.{Program}
use Rattle.task_ast.specs.Shaped.{is_shaped}
use Rattle.task_parser.specs.meaning.Expressions.{Text}
use Rattle.task_parser.specs.meaning.Spelling.{Spells}

-- a program that bytes stand for has no negative size, number of fields or barrier's number, and `when` has data statements alone
abbrev pub SpelledIsShaped : Type 0
SpelledIsShaped = (text : Text) (p : Program) → Spells text p → IsTrue (is_shaped p)
