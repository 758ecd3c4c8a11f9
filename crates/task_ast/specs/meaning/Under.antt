-- The record cells that stand under lock cells, and the subthreads that name only such as they hold.
use Rattle.std.specs.Prelude.{ℕ, Bool, List, [], nat_eq, slice_index_or}
use Rattle.std.specs.List.{list_any}

-- the record cells under a lock cell, from the cells under each
abbrev pub under_lock : List (List ℕ) → (lock : ℕ) → List ℕ
under_lock under lock = slice_index_or under lock []

-- whether a record cell stands under one of these lock cells
abbrev pub is_under : List (List ℕ) → (held : List ℕ) → (cell : ℕ) → Bool
is_under under held c = list_any (λ lock. list_any (nat_eq c) (under_lock under lock)) held
