-- How long the pieces of a text are.
use Rattle.std.specs.Prelude.{ℕ, ◌≤◌, Option}
use Rattle.std.specs.Option.{option_map_or}
use Rattle.task_parser.specs.declared.token.Kind.{Kind}
use Rattle.task_parser.specs.declared.token.Kind.TheVariants.{Num, Name, Reg, Quoted, Word, Mark}
use Rattle.task_parser.specs.declared.lexer.Piece.{Piece}
use Rattle.task_parser.specs.declared.lexer.Piece.TheVariants.{Skip, Take, TooBig, Bad}

-- the least number of bytes of a token of this kind
abbrev pub least_length : Kind → ℕ
least_length (Num n) = 1
least_length Name = 1
least_length Reg = 2
least_length Quoted = 2
least_length (Word number) = 1
least_length (Mark number) = 1

-- a reserved word, by its number, or a name
abbrev pub word_kind : Option ℕ → Kind
word_kind row = option_map_or Word row Name

-- a piece has at least the bytes of its kind, and lies within so many
abbrev pub FitsIn : ℕ → Piece → Type 0
FitsIn most (Skip bytes) = (1 ≤ bytes) × (bytes ≤ most)
FitsIn most (Take kind bytes) = (least_length kind ≤ bytes) × (bytes ≤ most)
FitsIn most TooBig = Unit {0}
FitsIn most (Bad bytes) = bytes ≤ most
