-- What the reader of a file of records gives.
use Rattle.std.specs.Prelude.{◌≡◌, ◌<◌, slice_index_or, ℕ, ℤ, List, length}
use Rattle.std.specs.Prelude.{Option, None}
use Rattle.batch_files.specs.meaning.Rows.{Row}
use Rattle.batch_files.specs.meaning.Records.{indexed_value}

-- as many cells as the size, each with the value that these rows give it
abbrev pub AreCells : (size : ℕ) → List Row → List (Option ℤ) → Type 0
AreCells size rows cells = (length cells ≡ size) × ((index : ℕ) → index < size → slice_index_or cells index None ≡ indexed_value size rows index)
