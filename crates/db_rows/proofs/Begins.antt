-- The text of rows begins with no byte order mark.
use Rattle.std.proofs.Common.{◌≡◌, ◌<◌, ◌/◌, ◌%◌, ◌==◌, ℕ, pos, negsuc, zero, suc, List, [], ◌∷◌, ◌++◌, map, drop, false, refl, arith, inl, inr}
use Rattle.std.specs.Prelude.{flat_map, nat_lt}
use Rattle.std.specs.List.{list_any}
use Rattle.std.specs.Fmt.{decimal, digits, digits_onto, digit_glyph}
use Rattle.std.proofs.lemmas.Bool.{cases_Bool}
use Rattle.std.proofs.lemmas.Bool.Decides.{nat_tests}
use Rattle.csv.specs.Reading.{strip_bom}
use Rattle.csv.specs.Writing.{default_writer, row_text, needs_byte, is_blank, fields_text}
use Rattle.sqlite_value.specs.declared.value.Value.{Value}
use Rattle.sqlite_value.specs.declared.value.Value.TheVariants.{Null, Int, Real, Text, Blob}
use Rattle.sqlite_value.specs.Order.{Row}
use Rattle.db_rows.specs.Starts.{Starts}
use Rattle.db_rows.specs.Csv.{field_of, fields_in}

-- a text that begins so keeps all its bytes
pub strip_plain : (text : List ℕ) → Starts text → strip_bom text ≡ text
unfolding strip_bom
strip_plain [] starts = refl
strip_plain (a ∷ []) starts = refl
strip_plain (a ∷ b ∷ []) starts = refl
strip_plain (a ∷ b ∷ c ∷ rest) starts =
    let other : (a == 239) ≡ false = grind (arith, nat_tests, starts) in
    rw other refl

glyph_starts : (d : ℕ) → d < 10 → digit_glyph false d < 239
glyph_starts d low = elim (cases_Bool (nat_lt d 10)) [ inl is ↦ rw is (omega arith) | inr is ↦ rw is (omega arith) ]

onto_starts : (k n : ℕ) (rest : List ℕ) → Starts rest → Starts (digits_onto k 10 false n rest)
onto_starts zero n rest starts = starts
onto_starts (suc k) n rest starts =
    let low : n % 10 < 10 = omega arith in
    elim (cases_Bool (n / 10 == 0)) [
      | inl last ↦ rw last (glyph_starts (n % 10) low)
      | inr more ↦ rw more (onto_starts k (n / 10) (digit_glyph false (n % 10) ∷ rest) (glyph_starts (n % 10) low))
    ]

decimal_starts : (n : ℕ) → Starts (decimal n)
unfolding digits
decimal_starts n = onto_starts 64 n [] tt

field_starts : (value : Value) → Starts (field_of value)
field_starts (Int (pos n)) = decimal_starts n
field_starts (Int (negsuc n)) = omega arith
field_starts Null = tt
field_starts (Real x) = tt
field_starts (Text t) = tt
field_starts (Blob b) = tt

-- the text of a row of such fields
row_starts : (row : Row) (rest : List ℕ) → Starts (row_text default_writer (map field_of row) ++ rest)
unfolding is_blank fields_text
row_starts [] rest = omega arith
row_starts (value ∷ more) rest = go (field_of value) (map field_of more) (field_starts value)
  where
    go : (field : List ℕ) (fields : List (List ℕ)) → Starts field → Starts (row_text default_writer (field ∷ fields) ++ rest)
    go [] [] starts = omega arith
    go [] (next ∷ fields) starts = omega arith
    go (b ∷ bytes) fields starts = elim (cases_Bool (list_any (needs_byte default_writer) (b ∷ bytes))) [
      | inl needs ↦ rw needs (omega arith)
      | inr plain ↦ rw plain starts
    ]

pub text_starts : (skip : ℕ) (rows : List Row) → Starts (flat_map (row_text default_writer) (fields_in skip rows))
text_starts skip [] = tt
text_starts skip (row ∷ rows) = row_starts (drop skip row) (flat_map (row_text default_writer) (fields_in skip rows))
