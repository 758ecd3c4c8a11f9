-- The rows and cells of a feed.
use Rattle.std.specs.Prelude.{ℕ, ℤ, pos, ◌+◌, ◌*◌, ◌/◌, cond, Option, None, nat_lt, length, slice_get}
use Rattle.gp_base.specs.declared.feed.Feed.{Feed}

-- how many rows a feed has
abbrev pub rows_in : Feed → ℕ
rows_in feed = length feed.cells / feed.fields

-- the cell in a row and a field, both counted from 0
abbrev pub cell_at : Feed → (row field : ℤ) → Option ℤ
cell_at feed (pos row) (pos field) = cond (nat_lt field feed.fields) (slice_get feed.cells (row * feed.fields + field)) None
cell_at feed row field = None
