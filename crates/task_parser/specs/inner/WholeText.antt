-- Reading all of the tokens, and what is answered where reading halts.
use Rattle.std.specs.Prelude.{List, [], ◌∷◌, Result, Ok, Err}
use Rattle.gp_base.specs.declared.limits.TheConstants.{DEEPEST_NESTING}
use Rattle.task_ast.specs.meaning.Tree.{Program}
use Rattle.task_parser.specs.declared.token.Token.{Token}
use Rattle.task_parser.specs.declared.fault.ParseFault.{ParseFault}
use Rattle.task_parser.specs.declared.fault.ParseFault.TheVariants.{Unexpected, TooDeep, OutOfMemory}
use Rattle.task_parser.specs.declared.halt.Halt.{Halt}
use Rattle.task_parser.specs.declared.halt.Halt.TheVariants as halts
use Rattle.task_parser.specs.meaning.Expressions.{Text}
use Rattle.task_parser.specs.meaning.Promise.{Stop, StandFor, StopFirst}
use Rattle.task_parser.specs.meaning.Answer.{offset_of}
use Rattle.task_parser.specs.inner.Reading.{◌>>=◌, unexpected}
use Rattle.task_parser.specs.inner.ProgramReaders.{read_program}

-- why reading halted, by its place in the text
abbrev pub fault_at : Text → Halt → ParseFault
fault_at text halts.Memory = OutOfMemory
fault_at text (halts.Unexpected rest) = Unexpected (offset_of text rest.now)
fault_at text (halts.TooDeep rest) = TooDeep (offset_of text rest.now)

-- reading all of the tokens
abbrev pub to_end : Program → List Token → Result Program Stop
to_end p [] = Ok p
to_end p (t ∷ ts) = unexpected (t ∷ ts)

unfoldable pub read_all : Text → List Token → Result Program Stop
read_all text tokens = read_program text DEEPEST_NESTING tokens >>= λ x. to_end x.0 x.1

abbrev pub Exactly : Text → List Token → Result Program Stop → Type 0
Exactly text tokens (Ok p) = StandFor text tokens p
Exactly text tokens (Err stop) = StopFirst text tokens stop
