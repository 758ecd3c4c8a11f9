-- The cells that the rows of a file of a feed write.
use Rattle.std.proofs.Common.{◌≡◌, ◌∙◌, ◌+◌, ◌*◌, ◌<◌, ◌≤◌, ℕ, ℤ, zero, suc, true, false, List, [], ◌∷◌, ◌++◌, length, take, refl, sym, ap, arith, Option, Some, None, length-append, add-one}
use Rattle.std.specs.Prelude.{◌==◌, nat_le, option_map, unwrap_or}
use Rattle.std.specs.Option.{option_zip}
use Rattle.std.proofs.Math.Nat.{suc-mul}
use Rattle.std.proofs.lemmas.Bool.Decides.{nat_tests}
use Rattle.std.proofs.lemmas.Grind.{flat_map-append}
use Rattle.std.proofs.lemmas.List.{append-nil}
use Rattle.csv.specs.Records.{field_at}
use Rattle.batch_files.specs.meaning.Numbers.{field_number, signed_number}
use Rattle.batch_files.specs.meaning.Rows.{Row}
use Rattle.batch_files.specs.meaning.Feeds.{cells_of, feed_rule, numbers_of}
use Rattle.batch_files.specs.Feeds.{AreCells}
use Rattle.batch_files.specs.declared.fault.FileKind.TheVariants.{Number, TooMany}

-- the numbers up to a field, and one more
pub numbers_more : (row : Row) (i : ℕ) (number : ℤ) (numbers : List ℤ) → field_number row i ≡ Some number
    → numbers_of (take i row) ≡ Some numbers
    → numbers_of (take (suc i) row) ≡ Some (numbers ++ number ∷ [])
unfolding field_at
numbers_more [] i number numbers e so_far = cc e
numbers_more (f ∷ fs) zero number numbers e so_far =
    let none : [] ≡ numbers = cc so_far in
    rw (e, ← none) refl
numbers_more (f ∷ fs) (suc i) number numbers e so_far =
    go (signed_number f) (numbers_of (take i fs)) refl (λ rest. numbers_more fs i number rest e) so_far
  where
    go : (first : Option ℤ) (rest : Option (List ℤ)) → numbers_of (take i fs) ≡ rest
        → ((ns : List ℤ) → numbers_of (take i fs) ≡ Some ns → numbers_of (take (suc i) fs) ≡ Some (ns ++ number ∷ []))
        → option_map (λ both. both.0 ∷ both.1) (option_zip first rest) ≡ Some numbers → option_map (λ both. both.0 ∷ both.1) (option_zip first (numbers_of (take (suc i) fs))) ≡ Some (numbers ++ number ∷ [])
    go (Some n) (Some ns) is later e = let whole : n ∷ ns ≡ numbers = cc e in rw (later ns is, ← whole) refl
    go (Some n) None is later e = cc e
    go None rest is later e = cc e

-- a field that writes no number
pub no_numbers : (row : Row) (i : ℕ) → i < length row → field_number row i ≡ None → numbers_of row ≡ None
unfolding field_at
no_numbers [] i lt e = absurd (omega (arith, lt))
no_numbers (f ∷ fs) zero lt e = rw e refl
no_numbers (f ∷ fs) (suc i) lt e = go (signed_number f) (no_numbers fs i (omega (arith, lt)) e)
  where
    go : (first : Option ℤ) → numbers_of fs ≡ None → option_map (λ both. both.0 ∷ both.1) (option_zip first (numbers_of fs)) ≡ None
    go (Some n) none = rw none refl
    go None none = refl

-- a row writes as many numbers as it has fields
length-numbers : (row : Row) (numbers : List ℤ) → numbers_of row ≡ Some numbers → length numbers ≡ length row
length-numbers [] numbers e = let none : [] ≡ numbers = cc e in ap length (sym none)
length-numbers (f ∷ fs) numbers e = go (signed_number f) (numbers_of fs) (λ ns. length-numbers fs ns) refl e
  where
    go : (first : Option ℤ) (rest : Option (List ℤ)) → ((ns : List ℤ) → numbers_of fs ≡ Some ns → length ns ≡ length fs)
        → numbers_of fs ≡ rest
        → option_map (λ both. both.0 ∷ both.1) (option_zip first rest) ≡ Some numbers → length numbers ≡ length (f ∷ fs)
    go (Some n) (Some ns) later is e =
        let whole : n ∷ ns ≡ numbers = cc e in
        rw (← whole) (ap suc (later ns is))
    go (Some n) None later is e = cc e
    go None rest later is e = cc e

-- the cells after one more row
cells_more : (rows : List Row) (row : Row) (numbers : List ℤ) → numbers_of row ≡ Some numbers
    → cells_of (rows ++ row ∷ []) ≡ cells_of rows ++ numbers
cells_more rows row numbers e =
    flat_map-append (λ row. unwrap_or (numbers_of row) []) rows (row ∷ []) ∙ rw (e, append-nil numbers) refl

-- how many cells there are after one more row
count_more : (fields room : ℕ) (rows : List Row) (row : Row) (cells numbers : List ℤ) → AreCells fields room rows cells
    → length row ≡ fields
    → numbers_of row ≡ Some numbers → length (cells ++ numbers) ≡ (length rows + 1) * fields
count_more fields room rows row cells numbers (is, count, fits) full e =
    let more = length-numbers row numbers e in
    let product : (length rows + 1) * fields ≡ length rows * fields + fields = rw add-one (suc-mul (length rows) fields) in
    omega (arith, length-append cells numbers, more, count, full, product)

-- a row for which there is room
pub put_row : (fields room : ℕ) (rows : List Row) (row : Row) (cells numbers : List ℤ) → AreCells fields room rows cells
    → length row ≡ fields
    → numbers_of row ≡ Some numbers → length (cells ++ numbers) ≤ room
    → (feed_rule fields room rows row ≡ None) × AreCells fields room (rows ++ row ∷ []) (cells ++ numbers)
put_row fields room rows row cells numbers held full e fits =
    let count = count_more fields room rows row cells numbers held full e in
    let whole : (length row == fields) ≡ true = grind (arith, nat_tests, full) in
    let room_left : nat_le ((length rows + 1) * fields) room ≡ true = grind (arith, nat_tests, fits, count) in
    let rows_more : length (rows ++ row ∷ []) ≡ length rows + 1 = length-append rows (row ∷ []) in (
      rw (whole, e, room_left) refl,
      (ap (λ before. before ++ numbers) held.0 ∙ sym (cells_more rows row numbers e), rw rows_more count, fits),
    )

-- a row for which there is none
pub too_many : (fields room : ℕ) (rows : List Row) (row : Row) (cells numbers : List ℤ) → AreCells fields room rows cells
    → length row ≡ fields
    → numbers_of row ≡ Some numbers → room < length (cells ++ numbers) → feed_rule fields room rows row ≡ Some TooMany
too_many fields room rows row cells numbers held full e past =
    let count = count_more fields room rows row cells numbers held full e in
    let whole : (length row == fields) ≡ true = grind (arith, nat_tests, full) in
    let no_room : nat_le ((length rows + 1) * fields) room ≡ false = grind (arith, nat_tests, past, count) in
    rw (whole, e, no_room) refl

-- a row with a field that is no number
pub no_number : (fields room : ℕ) (rows : List Row) (row : Row) → length row ≡ fields → numbers_of row ≡ None
    → feed_rule fields room rows row ≡ Some Number
no_number fields room rows row full e =
    let whole : (length row == fields) ≡ true = grind (arith, nat_tests, full) in
    rw (whole, e) refl
