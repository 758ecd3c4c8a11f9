-- The cells that are found by name.
use Rattle.std.proofs.Common.{◌≡◌, ℕ, ◌+◌, Bool, true, false, cond, List, [], ◌∷◌, Option, Some, None, unwrap_or, option_map, refl, sym, ap, ◌∙◌, arith}
use Rattle.task_ast.specs.meaning.Tree.{Name}
use Rattle.task_ast.specs.meaning.Names.{is_name, named}
use Rattle.task_ast.specs.Layout.{base_of}
use Rattle.lock_checker.specs.declared.cells.CellRange.{CellRange}
use Rattle.lock_checker.specs.Cells.{cells_of}
use Rattle.lock_checker.specs.Tables.{cells_from, cells_or_none}
use Rattle.lock_checker.proofs.BaseLemmas.{option_map-add, option_map-zero}

abbrev first_of : Option CellRange → Option ℕ
first_of o = option_map (λ cells. cells.first) o

abbrev size_of : Option CellRange → Option ℕ
size_of o = option_map (λ cells. cells.size) o

-- the first cell of an array, where the first of all arrays begins at a cell
first_from : (base : ℕ) (arrays : List (Name × ℕ)) (x : Name)
    → first_of (cells_from base arrays x) ≡ option_map (λ n. base + n) (base_of arrays x)
first_from base [] x = refl
first_from base (array ∷ arrays) x =
    by (is_name x array.0) (first_from (base + array.1) arrays x ∙ sym (option_map-add base array.1 (base_of arrays x)))
  where
    by : (here : Bool)
        → first_of (cells_from (base + array.1) arrays x) ≡ option_map (λ n. base + n) (option_map (λ n. array.1 + n) (base_of arrays x))
        → first_of (cond here (Some (record { first = base; size = array.1 })) (cells_from (base + array.1) arrays x))
        ≡ option_map (λ n. base + n) (cond here (Some 0) (option_map (λ n. array.1 + n) (base_of arrays x)))
    by true rest = ap Some (omega arith)
    by false rest = rest

pub first_is : (arrays : List (Name × ℕ)) (x : Name) → option_map (λ cells. cells.first) (cells_from 0 arrays x) ≡ base_of arrays x
first_is arrays x = first_from 0 arrays x ∙ option_map-zero (base_of arrays x)

size_is : (base : ℕ) (arrays : List (Name × ℕ)) (x : Name) → size_of (cells_from base arrays x) ≡ named x arrays
size_is base [] x = refl
size_is base (array ∷ arrays) x = by (is_name x array.0) (size_is (base + array.1) arrays x)
  where
    by : (here : Bool) → size_of (cells_from (base + array.1) arrays x) ≡ named x arrays
        → size_of (cond here (Some (record { first = base; size = array.1 })) (cells_from (base + array.1) arrays x))
        ≡ cond here (Some array.1) (named x arrays)
    by true rest = refl
    by false rest = rest

in_parts : (o : Option CellRange) → cells_or_none o ≡ record { first = unwrap_or (first_of o) 0; size = unwrap_or (size_of o) 0 }
in_parts None = refl
in_parts (Some cells) = refl

pub cells_is : (arrays : List (Name × ℕ)) (x : Name) → cells_or_none (cells_from 0 arrays x) ≡ cells_of arrays x
cells_is arrays x =
    in_parts (cells_from 0 arrays x)
    ∙ ap (λ o. record { first = unwrap_or o 0; size = unwrap_or (size_of (cells_from 0 arrays x)) 0 }) (first_is arrays x)
    ∙ ap (λ o. record { first = unwrap_or (base_of arrays x) 0; size = unwrap_or o 0 }) (size_is 0 arrays x)
