-- Where the rows of a file stand.
use Rattle.std.specs.Prelude.{◌≡◌, ◌<◌, ◌+◌, ◌==◌, ◌||◌, ℕ, Bool, not, List, length, take, drop, count_by, take_while, false, slice_index, if◌then◌else◌}
use Rattle.std.specs.List.{list_any}
use Rattle.batch_files.specs.meaning.Rows.{csv_rows}
use Rattle.row_places.specs.declared.place.RowPlace.{RowPlace}

-- LF or CR
abbrev pub is_line_end : ℕ → Bool
is_line_end b = b == 10 || b == 13

-- the byte that lines are counted by: LF, or CR in a file without LF
abbrev pub line_end : List ℕ → ℕ
line_end bytes = if list_any (λ b. b == 10) bytes then 10 else 13

-- the line of a byte, from 1
abbrev pub line_of : List ℕ → ℕ → ℕ
line_of bytes at = 1 + count_by (λ b. b == line_end bytes) (take at bytes)

-- the bytes from a place to the end of its line
abbrev pub line_from : List ℕ → ℕ → List ℕ
line_from bytes at = take_while (λ b. not (is_line_end b)) (drop at bytes)

-- the row of this number begins there: all earlier rows stand before that byte, which is no line end
pub record IsRowPlace (bytes : List ℕ) (row : ℕ) (place : RowPlace) : Type 0 where
  pub earlier : length (csv_rows (take place.at bytes)) + 1 ≡ row
  pub within : place.at < length bytes
  pub begins : is_line_end (slice_index bytes place.at) ≡ false
  pub counted : place.line ≡ line_of bytes place.at
