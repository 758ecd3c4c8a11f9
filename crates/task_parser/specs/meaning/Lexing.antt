-- The tokens of a text, with their places and lines, or the first fault of lexing.
use Rattle.std.specs.Prelude.{ℕ, zero, suc, ◌+◌, ◌-◌, ◌==◌, nat_lt, if◌then◌else◌, List, [], ◌∷◌, ◌++◌, length, count_by, Result, Ok, Err}
use Rattle.gp_base.specs.declared.limits.TheConstants.{MOST_PROGRAM_BYTES}
use Rattle.task_parser.specs.declared.token.Token.{Token}
use Rattle.task_parser.specs.declared.token.Kind.{Kind}
use Rattle.task_parser.specs.declared.fault.LexFault.{LexFault}
use Rattle.task_parser.specs.declared.fault.LexFault.TheVariants.{BadByte, NumberTooBig, TooLong}
use Rattle.task_parser.specs.declared.lexer.Piece.TheVariants.{Skip, Take, TooBig, Bad}
use Rattle.task_parser.specs.meaning.Pieces.{piece_of}

-- the line of what stands after these bytes: one more than the number of LF among them
abbrev pub line_after : List ℕ → ℕ
line_after before = 1 + count_by (λ b. b == 10) before

-- a token of so many bytes after these
abbrev pub token_after : List ℕ → Kind → ℕ → Token
token_after before kind bytes = record { kind = kind; from = length before; to = length before + bytes; line = line_after before }

-- a token before others
abbrev pub followed_by : Token → Result (List Token) LexFault → Result (List Token) LexFault
followed_by token (Ok tokens) = Ok (token ∷ tokens)
followed_by token (Err fault) = Err fault

-- The lexing of the rest of a text, byte by byte, after the bytes before it: a piece is read where it begins, and the next
-- `inside` bytes, which belong to it, are passed over.
abbrev pub lexed_after : List ℕ → ℕ → List ℕ → Result (List Token) LexFault
lexed_after before inside [] = Ok []
lexed_after before (suc inside) (b ∷ bs) = lexed_after (before ++ b ∷ []) inside bs
lexed_after before zero (b ∷ bs) =
    elim (piece_of (b ∷ bs)) [
      | Skip bytes ↦ lexed_after (before ++ b ∷ []) (bytes - 1) bs
      | Take kind bytes ↦ followed_by (token_after before kind bytes) (lexed_after (before ++ b ∷ []) (bytes - 1) bs)
      | TooBig ↦ Err (NumberTooBig (length before))
      | Bad bytes ↦ Err (BadByte (length before + bytes))
    ]

-- the lexing of a text: its tokens, or its first fault
abbrev pub lexed : List ℕ → Result (List Token) LexFault
lexed text = if nat_lt MOST_PROGRAM_BYTES (length text) then Err TooLong else lexed_after [] 0 text
