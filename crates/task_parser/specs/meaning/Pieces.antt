-- What stands at the front of a text: a space, a comment, a token, or what can't stand there.
use Rattle.std.specs.Prelude.{ℕ, pos, ◌+◌, ◌*◌, ◌-◌, Bool, false, not, ◌||◌, ◌&&◌, ◌==◌, nat_le, if◌then◌else◌, List, [], ◌∷◌, length, drop, take, Option, Some, None, fold, position, take_while, slice_index, bytes_eq, codes}
use Rattle.std.specs.List.{prefix_len}
use Rattle.std.specs.Option.{option_map_or}
use Rattle.std.specs.Char.{is_ascii_digit, is_ascii_alphabetic}
use Rattle.task_parser.specs.declared.token.Kind.TheVariants.{Num, Name, Reg, Quoted, Word, Mark}
use Rattle.task_parser.specs.declared.lexer.Piece.{Piece}
use Rattle.task_parser.specs.declared.lexer.Piece.TheVariants.{Skip, Take, TooBig, Bad}

-- the reserved words, in the order in which they are counted
abbrev pub words : List (List ℕ)
words =
    codes "lock" ∷ codes "unlock" ∷ codes "barrier" ∷ codes "record" ∷ codes "by" ∷ codes "from" ∷ codes "feed" ∷ codes "task"
    ∷ codes "var" ∷ codes "while" ∷ codes "if" ∷ codes "else" ∷ codes "fork" ∷ codes "into" ∷ codes "join" ∷ codes "read"
    ∷ codes "write" ∷ codes "print" ∷ codes "when" ∷ codes "and" ∷ codes "or" ∷ codes "not" ∷ codes "self" ∷ codes "rows"
    ∷ codes "settle" ∷ []

-- the marks, in the order in which they are counted
abbrev pub marks : List (List ℕ)
marks =
    codes "[" ∷ codes "]" ∷ codes "(" ∷ codes ")" ∷ codes "{" ∷ codes "}" ∷ codes "," ∷ codes ";" ∷ codes "=" ∷ codes "=="
    ∷ codes "!=" ∷ codes "<" ∷ codes "<=" ∷ codes ">" ∷ codes ">=" ∷ codes "+" ∷ codes "-" ∷ codes "*" ∷ codes "/"
    ∷ codes "%" ∷ []

-- the number of the row of a table that is this text
abbrev pub row_of : List (List ℕ) → List ℕ → Option ℕ
row_of table text = position (λ row. bytes_eq row text) table

-- space, tab, CR and LF
abbrev pub is_space : ℕ → Bool
is_space b = b == 32 || b == 9 || b == 13 || b == 10

-- a byte that a comment goes on with: all but LF
abbrev pub is_comment_byte : ℕ → Bool
is_comment_byte b = not (b == 10)

-- a letter or `_`, with which a name begins
abbrev pub is_letter : ℕ → Bool
is_letter b = is_ascii_alphabetic b || b == 95

-- a letter, a digit or `_`, with which a name goes on
abbrev pub is_name_byte : ℕ → Bool
is_name_byte b = is_letter b || is_ascii_digit b

-- a byte between quotes
abbrev pub is_quoted_byte : ℕ → Bool
is_quoted_byte b = nat_le 32 b && nat_le b 126 && not (b == 34)

-- the text's first byte passes the test
abbrev pub begins : (ℕ → Bool) → List ℕ → Bool
begins test [] = false
begins test (b ∷ bs) = test b

-- the number that decimal digits stand for
abbrev pub decimal : List ℕ → ℕ
decimal digits = fold (λ n digit. n * 10 + (digit - 48)) 0 digits

abbrev pub number_limit : ℕ
number_limit = 9223372036854775807

abbrev pub number_piece : List ℕ → Piece
number_piece digits = if nat_le (decimal digits) number_limit then Take (Num (pos (decimal digits))) (length digits) else TooBig

-- a word that isn't reserved is a name
abbrev pub word_piece : List ℕ → Piece
word_piece word = Take (option_map_or Word (row_of words word) Name) (length word)

-- after a `$`
abbrev pub register_piece : List ℕ → Piece
register_piece rest = if begins is_letter rest then Take Reg (1 + prefix_len is_name_byte rest) else Bad 1

-- after a `"`, where so many bytes can stand between quotes
abbrev pub quoted_piece : ℕ → List ℕ → Piece
quoted_piece inside rest = if begins (λ b. b == 34) (drop inside rest) then Take Quoted (inside + 2) else Bad (inside + 1)

-- the first two bytes where they are a mark, else the first; a lone `!` is a mark that is begun and not whole
abbrev pub mark_piece : ℕ → List ℕ → Option ℕ → Option ℕ → Piece
mark_piece b pair (Some number) single = Take (Mark number) (length pair)
mark_piece b pair None (Some number) = Take (Mark number) 1
mark_piece b pair None None = if b == 33 then Bad 1 else Bad 0

-- what stands at the front of a text, whose first byte is b
abbrev pub piece_at : ℕ → List ℕ → Piece
piece_at b text =
    if is_space b then Skip 1
    else if b == 35 then Skip (prefix_len is_comment_byte text)
    else if is_ascii_digit b then number_piece (take_while is_ascii_digit text)
    else if is_letter b then word_piece (take_while is_name_byte text)
    else if b == 36 then register_piece (drop 1 text)
    else if b == 34 then quoted_piece (prefix_len is_quoted_byte (drop 1 text)) (drop 1 text)
    else mark_piece b (take 2 text) (row_of marks (take 2 text)) (row_of marks (b ∷ []))

-- what stands at the front of a text that isn't empty
abbrev pub piece_of : List ℕ → Piece
piece_of text = piece_at (slice_index text 0) text
