-- The cells of an array, by its name and by its first cell.
use Rattle.std.proofs.Common.{◌≡◌, ℕ, ◌+◌, ◌≤◌, ℤ, pos, negsuc, Bool, true, false, cond, List, [], ◌∷◌, Option, Some, None, refl, sym, ap, ◌∙◌, arith, option_map, unwrap_or}
use Rattle.std.proofs.lemmas.Bool.{le-ltb}
use Rattle.task_ast.specs.meaning.Tree.{Name}
use Rattle.task_ast.specs.meaning.Names.{is_name, named, place, cell_number, cells_in}
use Rattle.task_ast.specs.Layout.{base_of}
use Rattle.lock_checker.specs.Cells.{cells_of}

no_place : (i : ℤ) → place 0 i ≡ None
no_place (pos n) = rw (le-ltb n 0 (omega arith)) refl
no_place (negsuc n) = refl

-- where the cells of a name's array lie among those of all
data Lies (arrays : List (Name × ℕ)) (x : Name) : Option ℕ → Option ℕ → Type 0 where
  nowhere : ((i : ℤ) → cell_number arrays x i ≡ None) → Lies arrays x None None
  there : {first size : ℕ} → first + size ≤ cells_in arrays
      → ((i : ℤ) → cell_number arrays x i ≡ option_map (λ n. first + n) (place size i)) → Lies arrays x (Some first) (Some size)

at_once : (o : Option ℕ) → o ≡ option_map (λ n. 0 + n) o
at_once None = refl
at_once (Some n) = ap Some (omega arith)

shifted : (m k : ℕ) (o : Option ℕ) → option_map (λ n. m + n) (option_map (λ n. k + n) o) ≡ option_map (λ n. m + k + n) o
shifted m k None = refl
shifted m k (Some n) = ap Some (omega arith)

lies : (arrays : List (Name × ℕ)) (x : Name) → Lies arrays x (base_of arrays x) (named x arrays)
lies [] x = nowhere (λ i. refl)
lies (array ∷ arrays) x = go (is_name x array.0) refl (lies arrays x)
  where
    go : (b : Bool) → is_name x array.0 ≡ b → {o p : Option ℕ} → Lies arrays x o p
        → Lies (array ∷ arrays) x (cond b (Some 0) (option_map (λ n. array.1 + n) o)) (cond b (Some array.1) p)
    go true e lie = there (omega arith) (λ i. rw e (at_once (place array.1 i)))
    go false e (nowhere none) = nowhere (λ i. rw (e, none i) refl)
    go false e (there {first} {size} within is) =
        there (omega (within, arith)) (λ i. rw (e, is i) (shifted array.1 first (place size i)))

-- the cell at an index of an array's cells
pub cell-is : (arrays : List (Name × ℕ)) (x : Name) (i : ℤ)
    → option_map (λ n. (cells_of arrays x).first + n) (place (cells_of arrays x).size i) ≡ cell_number arrays x i
cell-is arrays x i = by (lies arrays x)
  where
    by : {o p : Option ℕ} → Lies arrays x o p → option_map (λ n. unwrap_or o 0 + n) (place (unwrap_or p 0) i) ≡ cell_number arrays x i
    by (nowhere none) = ap (option_map _) (no_place i) ∙ sym (none i)
    by (there within is) = sym (is i)

-- the cells of an array are among those of all
pub cells-within : (arrays : List (Name × ℕ)) (x : Name) → (cells_of arrays x).first + (cells_of arrays x).size ≤ cells_in arrays
cells-within arrays x = by (lies arrays x)
  where
    by : {o p : Option ℕ} → Lies arrays x o p → unwrap_or o 0 + unwrap_or p 0 ≤ cells_in arrays
    by (nowhere none) = omega arith
    by (there within is) = within
