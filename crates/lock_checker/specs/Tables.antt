-- What stands beside a name in a table.
use Rattle.std.specs.Prelude.{ℕ, ◌+◌, cond, List, [], ◌∷◌, Option, Some, None}
use Rattle.std.specs.Ordering.{nat_cmp}
use Rattle.std.specs.Cmp.Lexicographic.{slice_cmp}
use Rattle.std.specs.BTreeMap.{get_by}
use Rattle.task_ast.specs.meaning.Tree.{Name}
use Rattle.task_ast.specs.meaning.Names.{is_name}
use Rattle.lock_checker.specs.declared.cells.CellRange.{CellRange}
use Rattle.lock_checker.specs.declared.symbol_table.SymbolTable.{SymbolTable}

abbrev pub found : {T : Type 0} → SymbolTable T → Name → Option T
found table x = get_by (λ k. slice_cmp nat_cmp x k.items) table.first

-- the first of two, where there is one
abbrev pub or_else : {T : Type 0} → Option T → Option T → Option T
or_else None other = other
or_else (Some v) other = Some v

-- the cells of the first array of this name, where the first of all arrays begins at a cell
abbrev pub cells_from : (base : ℕ) → List (Name × ℕ) → Name → Option CellRange
cells_from base [] x = None
cells_from base (array ∷ arrays) x =
    cond (is_name x array.0) (Some (record { first = base; size = array.1 })) (cells_from (base + array.1) arrays x)

-- the cells that were found, or none
abbrev pub cells_or_none : Option CellRange → CellRange
cells_or_none (Some cells) = cells
cells_or_none None = record { first = 0; size = 0 }
