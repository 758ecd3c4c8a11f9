-- The fields of a row.
use Rattle.std.specs.Prelude.{◌≡◌, ◌<◌, ◌-◌, ℕ, List, [], length, None, IsSome, slice_index_or}
use Rattle.batch_files.specs.meaning.Numbers.{field_number}
use Rattle.batch_files.specs.meaning.Rows.{Row}

-- the first field that writes no number
pub record IsBadField (row : Row) (field : ℕ) : Type 0 where
  pub within : field < length row
  pub writes_none : field_number row field ≡ None
  pub first : (earlier : ℕ) → earlier < field → IsSome (field_number row earlier)

-- so many fields at their fronts write the same numbers
abbrev pub AreAlike : ℕ → Row → Row → Type 0
AreAlike keys one other = (field : ℕ) → field < keys → field_number one field ≡ field_number other field

-- the row of this number, from 1
abbrev pub row_at : List Row → ℕ → Row
row_at rows number = slice_index_or rows (number - 1) []
