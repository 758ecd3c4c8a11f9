-- Which record cells stand under which lock cell.
use Rattle.std.specs.Prelude.{ℕ, ◌-◌, ◌==◌, pos, Bool, false, cond, List, [], ◌∷◌, map, take, drop, Option, Some, None, nat_lt}
use Rattle.std.specs.List.{filter}
use Rattle.task_ast.specs.declared.layout.Layout.{Layout}
use Rattle.task_ast.specs.declared.tree.Head.{Head}
use Rattle.task_ast.specs.declared.tree.Head.TheVariants.{RecHead}
use Rattle.task_ast.specs.meaning.Tree.{Name}
use Rattle.task_ast.specs.meaning.Names.{natural, locks_of, records_of, cell_number, cells_in}
use Rattle.task_ast.specs.meaning.Table.{numbers}

-- the lock cell over a record cell of these heads: that of the same index, in the record's lock array
abbrev pub lock_over : List (Name × ℕ) → List Head → (cell : ℕ) → Option ℕ
lock_over arrays [] c = None
lock_over arrays (RecHead name size by from line ∷ heads) c =
    cond (nat_lt c (natural size)) (cell_number arrays by (pos c)) (lock_over arrays heads (c - natural size))
lock_over arrays (head ∷ heads) c = lock_over arrays heads c

-- whether it is this lock cell
abbrev pub is_lock_cell : ℕ → Option ℕ → Bool
is_lock_cell lock None = false
is_lock_cell lock (Some over) = lock == over

-- the record cells under a lock cell, in rising order
abbrev pub cells_under : List Head → (lock : ℕ) → List ℕ
cells_under heads lock = filter (λ c. is_lock_cell lock (lock_over (locks_of heads) heads c)) (numbers 0 (cells_in (records_of heads)))

-- for each lock cell the record cells under it
abbrev pub layout : List Head → Layout
layout heads = record { under = map (cells_under heads) (numbers 0 (cells_in (locks_of heads))) }

-- each of these arrays with its own cells, cut from the list of all cells
abbrev pub cut : {A : Type 0} → List (Name × ℕ) → List A → List (Name × List A)
cut [] cells = []
cut (array ∷ arrays) cells = (array.0, take array.1 cells) ∷ cut arrays (drop array.1 cells)
