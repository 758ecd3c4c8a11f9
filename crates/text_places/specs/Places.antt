-- Lines and columns of a text.
use Rattle.std.specs.Prelude.{ℕ, ◌+◌, ◌-◌, ◌==◌, Bool, not, List, length, take, drop, take_while}
use Rattle.std.specs.List.{suffix_len}
use Rattle.task_parser.specs.meaning.Lexing.{line_after}
use Rattle.text_places.specs.declared.place.Place.{Place}

-- a byte that a line goes on with: all but LF
abbrev pub is_line_byte : ℕ → Bool
is_line_byte b = not (b == 10)

-- where the line begins that these bytes end in
abbrev pub line_start : List ℕ → ℕ
line_start before = length before - suffix_len is_line_byte before

-- the bytes of a line before a byte of it
abbrev pub line_before : List ℕ → ℕ → List ℕ
line_before text at = drop (line_start (take at text)) (take at text)

-- the line of a byte, without its LF
abbrev pub line_at : List ℕ → ℕ → List ℕ
line_at text at = take_while is_line_byte (drop (length (take at text) - length (line_before text at)) text)

abbrev pub place_of : List ℕ → ℕ → Place
place_of text at = record { line = line_after (take at text); column = length (line_before text at) + 1 }
