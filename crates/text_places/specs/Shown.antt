-- A line as it is shown, and the mark under one of its bytes.
use Rattle.std.specs.Prelude.{ℕ, ◌-◌, ◌==◌, ◌||◌, List, ◌++◌, length, take, drop, map, codes, nat_lt, if◌then◌else◌}
use Rattle.std.specs.Str.Lines.{strip_carriage_return}
use Rattle.text_places.specs.declared.lines.TheConstants.{LONGEST_SHOWN, SHOWN_BEFORE}
use Rattle.text_places.specs.Places.{line_before, line_at}

-- a byte below 32 but a tab, and 127, are shown as `?`
abbrev pub shown_byte : ℕ → ℕ
shown_byte b = if b == 9 then b else if nat_lt b 32 || b == 127 then 63 else b

-- the front of a line, without a CR at the line's end
abbrev pub shown : List ℕ → List ℕ
shown line = map shown_byte (take LONGEST_SHOWN (strip_carriage_return line))

-- under a tab stands a tab, so that the mark is right for any width of tabs
abbrev pub blank_byte : ℕ → ℕ
blank_byte b = if b == 9 then 9 else 32

-- what marks the byte after these
abbrev pub mark : List ℕ → List ℕ
mark before = map blank_byte before ++ codes "^"

-- a line with a mark after so many bytes of it
abbrev pub marked_line : (line before : List ℕ) → List ℕ
marked_line line before = shown line ++ codes "\n" ++ mark before ++ codes "\n"

-- how many bytes at the front of a line are left out
abbrev pub left_out : List ℕ → ℕ
left_out before = length before - SHOWN_BEFORE

-- the line without these bytes, after two points, and the mark under its byte
abbrev pub marked_part : (line before : List ℕ) → List ℕ
marked_part line before =
    codes ".." ++ shown (drop (left_out before) line) ++ codes "\n  " ++ mark (drop (left_out before) before) ++ codes "\n"

-- the line of a byte with the mark under it: the line's front, or a part around the byte where it stands after those that are shown
abbrev pub marked : List ℕ → ℕ → List ℕ
marked text at =
    if nat_lt (length (line_before text at)) LONGEST_SHOWN then marked_line (line_at text at) (line_before text at)
    else marked_part (line_at text at) (line_before text at)
