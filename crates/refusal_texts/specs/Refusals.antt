-- The texts that tell why a program is refused.
use Rattle.std.specs.Prelude.{◌≡◌, ◌⊎◌, ℕ, List, ◌++◌, codes}
use Rattle.task_ast.specs.declared.check_kind.CheckKind.{CheckKind}
use Rattle.task_ast.specs.declared.check_kind.CheckKind.TheVariants as kind
use Rattle.task_parser.specs.declared.token.Token.{Token}
use Rattle.task_parser.specs.declared.fault.LexFault.{LexFault}
use Rattle.task_parser.specs.declared.fault.LexFault.TheVariants as lex
use Rattle.task_parser.specs.declared.fault.ParseFault.{ParseFault}
use Rattle.task_parser.specs.declared.fault.ParseFault.TheVariants as parse
use Rattle.text_places.specs.Faults.{lex_place, parse_place}
use Rattle.text_places.specs.Tokens.{BeginsAt}
use Rattle.refusal_texts.specs.declared.lexing.TheConstants.{BYTES, NUMBERS}
use Rattle.refusal_texts.specs.declared.parsing.TheConstants.{NO_PROGRAM, DEEP}
use Rattle.refusal_texts.specs.Fronts.{rule_text, IsRefusal}

-- why a text is no list of tokens
abbrev pub IsLexRefusal : (name program : List ℕ) → LexFault → (old new : List ℕ) → Type 0
IsLexRefusal name program (lex.BadByte at) = IsRefusal name program (lex_place program at) (rule_text (codes "lex") 1 BYTES.now (codes "byte") at)
IsLexRefusal name program (lex.NumberTooBig at) = IsRefusal name program at (rule_text (codes "lex") 2 NUMBERS.now (codes "byte") at)
IsLexRefusal name program lex.TooLong = λ old new. new ≡ old ++ name ++ codes ": more than 1048576 bytes (lex 3)\n"
IsLexRefusal name program lex.OutOfMemory = λ old new. ⊥

-- why tokens are no program
abbrev pub IsParseRefusal : (name program : List ℕ) → List Token → ParseFault → (old new : List ℕ) → Type 0
IsParseRefusal name program tokens (parse.Unexpected at) =
    IsRefusal name program (parse_place program tokens at) (rule_text (codes "parse") 1 NO_PROGRAM.now (codes "byte") at)
IsParseRefusal name program tokens (parse.TooDeep at) = IsRefusal name program at (rule_text (codes "parse") 2 DEEP.now (codes "byte") at)
IsParseRefusal name program tokens parse.OutOfMemory = λ old new. ⊥

abbrev pub kind_number : CheckKind → ℕ
kind_number kind.UnknownName = 1
kind_number kind.DoubleName = 2
kind_number kind.WrongCount = 3
kind_number kind.DataInControl = 4
kind_number kind.NotHeld = 5
kind_number kind.HeldTwice = 6
kind_number kind.HeldAtEnd = 7
kind_number kind.BranchesDiffer = 8
kind_number kind.IndexChangedWhileHeld = 9
kind_number kind.SizesDiffer = 10
kind_number kind.TooMany = 11

-- why a program breaks a rule in a line: shown at a token of that line, or at the text's first byte
pub record IsCheckRefusal (name program : List ℕ) (tokens : List Token) (kind : CheckKind) (line : ℕ) (old new : List ℕ) : Type 0 where
  pub at : ℕ
  pub says : List ℕ
  pub stands : BeginsAt tokens line at ⊎ (at ≡ 0)
  pub refusal : IsRefusal name program at (rule_text (codes "check") (kind_number kind) says (codes "line") line) old new
