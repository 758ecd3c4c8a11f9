-- What stands at the front of bytes.
use Rattle.std.specs.Prelude.{◌≡◌, ◌≢◌, ◌&&◌, ◌||◌, ◌==◌, ℕ, ℤ, Bool, true, false, List, [], ◌∷◌, ◌++◌, All, ⊤, codes, flat_map, Option, Some, None}
use Rattle.std.specs.Char.{is_ascii_digit}
use Rattle.std.specs.Str.{all_ascii_digits}
use Rattle.std.specs.Fmt.{signed_decimal}
use Rattle.gp_base.specs.Fronts.{begins_with_digit}
use Rattle.retirement_log.specs.meaning.Rows.{IsWide}

-- The text of a value that fits stands at the front of the bytes, and the rest after it. Where what comes after may end such a text, it
-- is the only one.
pub record IsOnlyFront {A : Type 0} (text : A → List ℕ) (fits : A → Type 0) (ends : List ℕ → Type 0) (bytes : List ℕ) (value : A)
    (rest : List ℕ) : Type 0 where
  pub fit : fits value
  pub bytes_are : bytes ≡ text value ++ rest
  pub only : (other : A) (after : List ℕ) → fits other → ends after → bytes ≡ text other ++ after → (other ≡ value) × (after ≡ rest)

-- the only text at the front of the bytes, with what remains after it; or there is none
abbrev pub IsFront : {A : Type 0} → (text : A → List ℕ) → (fits : A → Type 0) → (ends : List ℕ → Type 0) → (bytes : List ℕ)
    → Option (A × List ℕ) → Type 0
IsFront text fits ends bytes (Some read) = IsOnlyFront text fits ends bytes read.0 read.1
IsFront {A} text fits ends bytes None = (value : A) (rest : List ℕ) → fits value → ends rest → bytes ≢ text value ++ rest

-- ---- numbers

-- bytes with which no number goes on
abbrev pub EndsNumber : List ℕ → Type 0
EndsNumber rest = begins_with_digit rest ≡ false

-- digits, perhaps after a minus
abbrev pub is_numeral : List ℕ → Bool
is_numeral [] = true
is_numeral (c ∷ rest) = (is_ascii_digit c || c == 45) && all_ascii_digits rest

-- whether such digits go on with the rest
abbrev pub goes_on : (front rest : List ℕ) → Bool
goes_on front [] = false
goes_on [] (c ∷ rest) = is_ascii_digit c || c == 45
goes_on (d ∷ front) (c ∷ rest) = is_ascii_digit c

-- the number that the bytes are printed for
abbrev pub IsNumber : (bytes : List ℕ) → Option ℤ → Type 0
IsNumber bytes (Some n) = IsWide n × (bytes ≡ signed_decimal n)
IsNumber bytes None = (n : ℤ) → IsWide n → bytes ≢ signed_decimal n

abbrev pub spaced_number : ℤ → List ℕ
spaced_number n = codes " " ++ signed_decimal n

-- ---- lists of values

module _ {A : Type 0} (text : A → List ℕ) (fits : A → Type 0) (ends : List ℕ → Type 0) where
  -- bytes with which no list of such values goes on
  abbrev pub EndsMany : List ℕ → Type 0
  EndsMany rest = ends rest × ((value : A) (later : List ℕ) → fits value → rest ≢ text value ++ later)

  -- what was read of a list: these values, and what is left to read
  pub record ReadsMany (bytes : List ℕ) (values : List A) (rest : List ℕ) : Type 0 where
    pub fit : All fits values
    pub bytes_are : bytes ≡ flat_map text values ++ rest
    pub others : (all : List A) (after : List ℕ) → All fits all → EndsMany after → bytes ≡ flat_map text all ++ after
        → (later : List A) × All fits later × (all ≡ values ++ later) × (rest ≡ flat_map text later ++ after)

-- bytes with which no list of numbers goes on
abbrev pub EndsNumbers : List ℕ → Type 0
EndsNumbers = EndsMany spaced_number IsWide EndsNumber

-- ---- cells

abbrev pub IsWideCell : ℤ × ℤ → Type 0
IsWideCell cell = IsWide cell.0 × IsWide cell.1

-- a cell and its value, each after a space
abbrev pub cell_text : ℤ × ℤ → List ℕ
cell_text cell = spaced_number cell.0 ++ spaced_number cell.1

-- bytes with which no list of cells goes on
abbrev pub EndsCells : List ℕ → Type 0
EndsCells = EndsMany cell_text IsWideCell EndsNumber

-- the last group of a row, with the end of its line
abbrev pub cells_end : List (ℤ × ℤ) → List ℕ
cells_end cells = codes " ;" ++ (flat_map cell_text cells ++ codes "\n")

-- the position of a row, and the bytes up to the end of its lines
abbrev pub head_text : ℤ × ℤ → List ℕ
head_text head = signed_decimal head.0 ++ spaced_number head.1

-- nothing is asked of what comes after
abbrev pub Anything : List ℕ → Type 0
Anything rest = ⊤
