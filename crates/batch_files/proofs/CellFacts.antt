-- The cells that the rows of a file of records write.
use Rattle.std.proofs.Common.{◌≡◌, ◌≢◌, ◌∙◌, ◌<◌, ◌≤◌, ◌⊎◌, ℕ, ℤ, pos, zero, suc, Bool, true, false, List, [], ◌∷◌, ◌++◌, length, take, get_or, map, replicate, refl, sym, ap, arith, Option, Some, None, if◌then◌else◌, inl, inr}
use Rattle.std.proofs.Common.{slice_set, get_or-set_same, get_or-set_other, length-set}
use Rattle.std.specs.Prelude.{Result, Ok, Err, unwrap_or, IsSome, ◌==◌}
use Rattle.std.proofs.lemmas.Bool.{cases_Bool}
use Rattle.std.proofs.lemmas.Bool.Decides.{nat_tests}
use Rattle.std.proofs.lemmas.List.{map-append, get_or-replicate, length-replicate, take_all}
use Rattle.std.proofs.Math.Seq.{take-suc}
use Rattle.batch_files.specs.meaning.Rows.{Row, first_broken}
use Rattle.batch_files.specs.meaning.Records.{cells_below, records_by, entry_of, entry_rule, record_rule, indexed_value, value_or}
use Rattle.batch_files.specs.Records.{AreCells}
use Rattle.batch_files.specs.declared.records.Entry.{Entry}
use Rattle.batch_files.specs.declared.fault.FileKind.{FileKind}
use Rattle.batch_files.specs.declared.fault.FileKind.TheVariants.{Twice}

value_new : (size : ℕ) (rows : List Row) (row : Row) (entry : Entry) → entry_of size row ≡ Ok entry → indexed_value size rows entry.index ≡ None
    → indexed_value size (rows ++ row ∷ []) entry.index ≡ Some entry.value
value_new size [] row entry e none =
    let here : (entry.index == entry.index) ≡ true = grind (arith, nat_tests) in
    rw (e, here) refl
value_new size (r ∷ rows) row entry e none = go (entry_of size r) (value_new size rows row entry e) none
  where
    pick : (b : Bool) (v : ℤ) → (indexed_value size rows entry.index ≡ None → indexed_value size (rows ++ row ∷ []) entry.index ≡ Some entry.value)
        → (if b then Some v else indexed_value size rows entry.index) ≡ None
        → (if b then Some v else indexed_value size (rows ++ row ∷ []) entry.index) ≡ Some entry.value
    pick true v later none = cc none
    pick false v later none = later none

    go : (o : Result Entry FileKind)
        → (indexed_value size rows entry.index ≡ None → indexed_value size (rows ++ row ∷ []) entry.index ≡ Some entry.value)
        → value_or o entry.index (indexed_value size rows entry.index) ≡ None
        → value_or o entry.index (indexed_value size (rows ++ row ∷ []) entry.index) ≡ Some entry.value
    go (Ok old) later none = pick (old.index == entry.index) old.value later none
    go (Err kind) later none = later none

value_other : (size : ℕ) (rows : List Row) (row : Row) (entry : Entry) (other : ℕ) → entry_of size row ≡ Ok entry → entry.index ≢ other
    → indexed_value size (rows ++ row ∷ []) other ≡ indexed_value size rows other
value_other size [] row entry other e ne =
    let there : (entry.index == other) ≡ false = grind (arith, nat_tests) in
    rw (e, there) refl
value_other size (r ∷ rows) row entry other e ne = ap (value_or (entry_of size r) other) (value_other size rows row entry other e ne)

cells_are : (size n : ℕ) (rows : List Row) (cells : List (Option ℤ)) → n ≤ length cells
    → ((i : ℕ) → i < n → get_or cells i None ≡ indexed_value size rows i)
    → map (λ cell. unwrap_or cell (pos 0)) (take n cells) ≡ cells_below size n rows
cells_are size zero rows cells room same = refl
cells_are size (suc n) rows cells room same =
    rw (take-suc cells n None, map-append (λ cell. unwrap_or cell (pos 0)) (take n cells) (get_or cells n None ∷ []), same n (omega arith))
    (ap (λ below. below ++ unwrap_or (indexed_value size rows n) (pos 0) ∷ [])
    (cells_are size n rows cells (omega arith) (λ i lt. same i (omega arith))))

-- the values of all cells
pub all_cells : (size : ℕ) (rows : List Row) (cells : List (Option ℤ)) → AreCells size rows cells
    → map (λ cell. unwrap_or cell (pos 0)) cells ≡ cells_below size size rows
all_cells size rows cells (room, same) =
    let whole = cells_are size size rows cells (omega (arith, room)) same in
    let full : take size cells ≡ cells = take_all size cells (omega (arith, room)) in
    rw full at whole

-- no cell has a row
pub no_rows : (size : ℕ) (cells : List (Option ℤ)) → cells ≡ replicate size None → AreCells (length cells) [] cells
no_rows size cells empty =
    let size_is : length cells ≡ size = ap length empty ∙ length-replicate size None in
    (refl, λ i lt. rw empty (get_or-replicate size i None None (omega (arith, lt, size_is))))

-- the cells after one more row
same_set : (size : ℕ) (rows : List Row) (row : Row) (entry : Entry) (cells : List (Option ℤ)) → length cells ≡ size → entry.index < size
    → entry_of size row ≡ Ok entry → indexed_value size rows entry.index ≡ None
    → ((i : ℕ) → i < size → get_or cells i None ≡ indexed_value size rows i)
    → (i : ℕ) → i < size → get_or (slice_set cells entry.index (Some entry.value)) i None ≡ indexed_value size (rows ++ row ∷ []) i
same_set size rows row entry cells room lt e free same i small = go (cases_Bool (entry.index == i))
  where
    go : ((entry.index == i) ≡ true) ⊎ ((entry.index == i) ≡ false)
        → get_or (slice_set cells entry.index (Some entry.value)) i None ≡ indexed_value size (rows ++ row ∷ []) i
    go (inl here) =
        let at : i ≡ entry.index = grind (arith, nat_tests, here) in
        let inside : entry.index < length cells = omega arith in
        rw (at, value_new size rows row entry e free) (get_or-set_same cells entry.index (Some entry.value) None inside)
    go (inr there) =
        let ne : entry.index ≢ i = grind (arith, nat_tests, there) in
        let en : i ≢ entry.index = omega (arith, ne) in
        rw (value_other size rows row entry i e ne) (get_or-set_other cells entry.index i (Some entry.value) None en ∙ same i small)

-- a row that keeps the rules is put in
pub put_cell : (size : ℕ) (rows : List Row) (row : Row) (entry : Entry) (value : ℤ) (cells : List (Option ℤ)) → AreCells size rows cells
    → entry_of (length cells) row ≡ Ok entry → value ≡ entry.value → entry.index < length cells → get_or cells entry.index None ≡ None
    → (record_rule size rows row ≡ None) × AreCells size (rows ++ row ∷ []) (slice_set cells entry.index (Some value))
put_cell size rows row entry value cells (room, same) e v lt none =
    let here = rw room at e in
    let inside = rw room at lt in
    let free : indexed_value size rows entry.index ≡ None = sym (same entry.index inside) ∙ none in (
      ap (entry_rule size rows) here ∙ rw free refl,
      rw v (simp length-set room, same_set size rows row entry cells room inside here free same),
    )

-- a row whose index stood in an earlier one
pub is_twice : (size : ℕ) (rows : List Row) (row : Row) (entry : Entry) (cells : List (Option ℤ)) → AreCells size rows cells
    → entry_of (length cells) row ≡ Ok entry → entry.index < length cells → IsSome (get_or cells entry.index None)
    → record_rule size rows row ≡ Some Twice
is_twice size rows row entry cells (room, same) e lt some =
    let here = rw room at e in
    let taken = rw (same entry.index (rw room at lt)) at some in
    ap (entry_rule size rows) here ∙ rw taken refl

-- a row that breaks a rule by itself
pub breaks : (size : ℕ) (rows : List Row) (row : Row) (kind : FileKind) (cells : List (Option ℤ)) → AreCells size rows cells
    → entry_of (length cells) row ≡ Err kind → record_rule size rows row ≡ Some kind
breaks size rows row kind cells (room, same) e = ap (entry_rule size rows) (rw room at e)

-- what the rows mean where none was refused
pub meaning : (size : ℕ) (rows : List Row) (begun cells : List (Option ℤ)) → begun ≡ replicate size None
    → first_broken (record_rule (length begun)) [] rows ≡ None → AreCells (length begun) rows cells
    → records_by size rows ≡ Ok (map (λ cell. unwrap_or cell (pos 0)) cells)
meaning size rows begun cells empty whole held =
    let same : length begun ≡ size = ap length empty ∙ length-replicate size None in
    rw (rw same at whole) (ap Ok (sym (all_cells size rows cells (rw same at held))))
