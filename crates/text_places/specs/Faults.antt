-- Where a fault of lexing or of parsing is shown.
use Rattle.std.specs.Prelude.{ℕ, ◌-◌, ◌%◌, ◌==◌, ◌||◌, ◌&&◌, Bool, not, List, length, count_by, slice_get, slice_index, if◌then◌else◌}
use Rattle.std.specs.Option.{option_map_or}
use Rattle.task_parser.specs.declared.token.Token.{Token}
use Rattle.text_places.specs.Places.{line_before}

-- a text in quotes is begun before the byte, in its line
abbrev pub is_quoted_at : List ℕ → ℕ → Bool
is_quoted_at text at = count_by (λ b. b == 34) (line_before text at) % 2 == 1

-- a `!` or a `$`
abbrev pub is_opener : ℕ → Bool
is_opener b = b == 33 || b == 36

-- a lone `!` or `$` has its fault at the next byte, and is shown itself
abbrev pub lex_place : List ℕ → ℕ → ℕ
lex_place text at = if is_opener (slice_index text (at - 1)) && not (is_quoted_at text at) then at - 1 else at

-- where the last token ends
abbrev pub end_of : List Token → ℕ
end_of tokens = option_map_or (λ (t : Token). t.to) (slice_get tokens (length tokens - 1)) 0

-- a text that ends too soon is shown after its last token
abbrev pub parse_place : List ℕ → List Token → ℕ → ℕ
parse_place text tokens at = if at == length text then end_of tokens else at
