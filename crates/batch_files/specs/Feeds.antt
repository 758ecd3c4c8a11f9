-- What the reader of a file of a feed gives.
use Rattle.std.specs.Prelude.{◌≡◌, ◌≤◌, ◌*◌, ℕ, ℤ, List, length}
use Rattle.batch_files.specs.meaning.Rows.{Row}
use Rattle.batch_files.specs.meaning.Feeds.{cells_of}

-- as many cells as these rows have, and no more than there is room for
abbrev pub AreCells : (fields room : ℕ) → List Row → List ℤ → Type 0
AreCells fields room rows cells = (cells ≡ cells_of rows) × (length cells ≡ length rows * fields) × (length cells ≤ room)
