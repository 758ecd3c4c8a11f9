-- The cells of a row rise exactly where the number of each is below that of the next.
use Rattle.std.proofs.Common.{◌≡◌, ℕ, zero, suc, ℤ, pos, ◌+◌, ◌-◌, ◌<◌, ◌≤◌, true, List, [], ◌∷◌, length, map, get_or, inl, inr, refl, sym, ap, subst, arith}
use Rattle.std.specs.declared.cmp.Ordering.{Ordering}
use Rattle.std.specs.declared.cmp.Ordering.TheVariants.{Less, Equal, Greater}
use Rattle.std.specs.Ordering.{nat_cmp, is_lt}
use Rattle.std.specs.Cmp.{nat_cmp_is}
use Rattle.std.specs.FinMap.{is_sorted}
use Rattle.std.specs.FinMap.Entries.{below_all}
use Rattle.std.proofs.lemmas.Bool.{and_parts, and_from, cases_lt, false≢true}
use Rattle.std.proofs.lemmas.Cmp.{ranked}
use Rattle.task_ast.specs.meaning.Names.{natural}
use Rattle.gp_resume.specs.inner.RowsRead.{write_in}

-- the number of the cell at a place
abbrev pub number_of : List (ℤ × ℤ) → ℕ → ℕ
number_of cells k = natural (get_or cells k (pos 0, pos 0)).0

-- the cells before a place rise
abbrev pub RiseTo : List (ℤ × ℤ) → ℕ → Type 0
RiseTo cells n = (k : ℕ) → k + 1 < n → number_of cells k < number_of cells (k + 1)

is-below : (n m : ℕ) → n < m → is_lt (nat_cmp n m) ≡ true
is-below n m less = ap is_lt (sym (nat_cmp_is n m Less less))

below-is : (n m : ℕ) → is_lt (nat_cmp n m) ≡ true → n < m
below-is n m is = go (nat_cmp n m) refl is
  where
    go : (o : Ordering) → nat_cmp n m ≡ o → is_lt o ≡ true → n < m
    go Less e is = ranked n m Less (sym e)
    go Equal e is = absurd (false≢true is)
    go Greater e is = absurd (false≢true is)

-- those after the first rise too
rise-on : (cell : ℤ × ℤ) (cells : List (ℤ × ℤ)) → RiseTo (cell ∷ cells) (length (cell ∷ cells)) → RiseTo cells (length cells)
rise-on cell cells rises k less = let next : suc k + 1 ≡ suc (k + 1) = omega arith in rw next at (rises (suc k) (omega arith))

-- a number below the first of cells that rise is below all of them
below-each : (n : ℕ) (cells : List (ℤ × ℤ)) → (0 < length cells → n < number_of cells 0) → RiseTo cells (length cells)
    → below_all nat_cmp n (map write_in cells) ≡ true
below-each n [] first rises = refl
below-each n (cell ∷ cells) first rises =
    let here : n < natural cell.0 = first (omega arith) in
    and_from (is_lt (nat_cmp n (natural cell.0))) (below_all nat_cmp n (map write_in cells)) (is-below n (natural cell.0) here)
    (below-each n cells (λ some. let next : natural cell.0 < number_of cells 0 = rises 0 (omega arith) in omega arith)
    (rise-on cell cells rises))

pub sorted-cells : (cells : List (ℤ × ℤ)) → RiseTo cells (length cells) → is_sorted nat_cmp (map write_in cells) ≡ true
sorted-cells [] rises = refl
sorted-cells (cell ∷ cells) rises =
    and_from (below_all nat_cmp (natural cell.0) (map write_in cells)) (is_sorted nat_cmp (map write_in cells))
    (below-each (natural cell.0) cells (λ some. rises 0 (omega arith)) (rise-on cell cells rises))
    (sorted-cells cells (rise-on cell cells rises))

-- a number below all is below the first
first-above : (n : ℕ) (cells : List (ℤ × ℤ)) → below_all nat_cmp n (map write_in cells) ≡ true → 0 < length cells → n < number_of cells 0
first-above n [] below some = absurd (omega arith)
first-above n (cell ∷ cells) below some =
    below-is n (natural cell.0) (and_parts (is_lt (nat_cmp n (natural cell.0))) (below_all nat_cmp n (map write_in cells)) below).0

pub cells-rise : (cells : List (ℤ × ℤ)) → is_sorted nat_cmp (map write_in cells) ≡ true → RiseTo cells (length cells)
cells-rise [] sorted k less = absurd (omega arith)
cells-rise (cell ∷ cells) sorted zero less =
    first-above (natural cell.0) cells
    (and_parts (below_all nat_cmp (natural cell.0) (map write_in cells)) (is_sorted nat_cmp (map write_in cells)) sorted).0 (omega arith)
cells-rise (cell ∷ cells) sorted (suc k) less =
    let next : suc k + 1 ≡ suc (k + 1) = omega arith in
    let sorted_on =
    (and_parts (below_all nat_cmp (natural cell.0) (map write_in cells)) (is_sorted nat_cmp (map write_in cells)) sorted).1 in
    rw next (cells-rise cells sorted_on k (omega arith))

-- one more cell rises that is above the one before
pub rises-more : (cells : List (ℤ × ℤ)) (n : ℕ) → RiseTo cells n
    → (1 ≤ n → number_of cells (n - 1) < number_of cells n) → RiseTo cells (n + 1)
rises-more cells n rises last k less = elim (cases_lt (k + 1) n) [
  | inl before ↦ rises k before
  | inr behind ↦
      (let here : n - 1 ≡ k = omega arith in
      let next : n ≡ k + 1 = omega arith in
      subst (λ m. number_of cells k < number_of cells m) next
      (subst (λ m. number_of cells m < number_of cells n) here (last (omega arith))))
]
