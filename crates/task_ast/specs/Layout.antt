-- Where the cells of arrays stand: when numbers are those of a layout, and the laws of them.
use Rattle.std.specs.Prelude.{◌≡◌, ◌↔◌, ℕ, ◌+◌, ◌<◌, ℤ, pos, Bool, true, not, ◌&&◌, cond, List, [], ◌∷◌, Option, Some, None, option_map}
use Rattle.std.specs.List.{list_all, Contains}
use Rattle.std.specs.List.Sorted.{IsStrictlyIncreasing}
use Rattle.task_ast.specs.declared.tree.Head.{Head}
use Rattle.task_ast.specs.meaning.Tree.{Name, Program}
use Rattle.task_ast.specs.meaning.Names.{is_name, named, locks_of, records_of, arrays_over, cell_number, cells_in}
use Rattle.task_ast.specs.meaning.Declarations.{lacks_array, sizes_differ}
use Rattle.task_ast.specs.Shaped.{IsAccepted}
use Rattle.task_ast.specs.meaning.Layout.{cells_under, lock_over}

-- the number of an array's first cell, or none where there is no array of this name
abbrev pub base_of : List (Name × ℕ) → Name → Option ℕ
base_of [] x = None
base_of (array ∷ arrays) x = cond (is_name x array.0) (Some 0) (option_map (λ n. array.1 + n) (base_of arrays x))

-- a record has the size of its lock array, which is declared
abbrev pub fits_array : List Head → Head → Bool
fits_array heads head = not (lacks_array heads head) && not (sizes_differ heads head)

-- each record cell stands under exactly one lock cell, nothing else does, and those under one lock cell rise
pub record IsLaidOut (heads : List Head) : Type 0 where
  pub one_lock : (c : ℕ) → c < cells_in (records_of heads)
      → (l : ℕ) × (l < cells_in (locks_of heads)) × ((lock : ℕ) → Contains (cells_under heads lock) c ↔ (lock ≡ l))
  pub within : (lock c : ℕ) → Contains (cells_under heads lock) c → c < cells_in (records_of heads)
  pub rising : (lock : ℕ) → IsStrictlyIncreasing (cells_under heads lock)

-- where sizes agree, the cells are laid out so
abbrev pub LayoutLaw : Type 0
LayoutLaw = (heads : List Head) → list_all (fits_array heads) heads ≡ true → IsLaidOut heads

-- in an accepted program sizes agree
abbrev pub SizesLaw : Type 0
SizesLaw = (program : Program) → IsAccepted program → list_all (fits_array program.heads) program.heads ≡ true

-- the cell of a record at an index stands under the cell of its lock array at that index
abbrev pub OverLaw : Type 0
OverLaw =
    (heads : List Head) (r a : Name) (index : ℤ) (c : ℕ) → cell_number (records_of heads) r index ≡ Some c
    → named r (arrays_over heads) ≡ Some a
    → lock_over (locks_of heads) heads c ≡ cell_number (locks_of heads) a index

-- an array's cell is as far from its first cell as its index says
abbrev pub BaseLaw : Type 0
BaseLaw =
    (arrays : List (Name × ℕ)) (x : Name) (index : ℤ) (c : ℕ) → cell_number arrays x index ≡ Some c
    → (base k : ℕ) × (base_of arrays x ≡ Some base) × (index ≡ pos k) × (c ≡ base + k)
