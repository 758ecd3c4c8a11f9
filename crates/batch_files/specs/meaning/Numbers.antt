-- Numbers as files write them.
use Rattle.std.specs.Prelude.{ℕ, ℤ, pos, negsuc, neg_ℤ, ◌-◌, ◌^◌, ◌==◌, ◌&&◌, Bool, List, drop, nat_le, nat_lt, if◌then◌else◌}
use Rattle.std.specs.Prelude.{Option, Some, None, option_map, option_and_then, slice_index}
use Rattle.std.specs.Str.Parse.{digits_value}
use Rattle.csv.specs.Records.{field_at}
use Rattle.gp_base.specs.meaning.Digits.{is_digits}

-- the number that a text of digits writes, where it is at most so large
abbrev pub number_up_to : ℕ → List ℕ → Option ℕ
number_up_to high text = let n = digits_value 10 text in if is_digits text && nat_le n high then Some n else None

-- the number that digits after an optional minus (45) write, where an `i64` holds it
abbrev pub signed_number : List ℕ → Option ℤ
signed_number text =
    if slice_index text 0 == 45
    then option_map (λ n. neg_ℤ (pos n)) (number_up_to (2 ^ 63) (drop 1 text))
    else option_map pos (number_up_to (2 ^ 63 - 1) text)

-- the number that a field of a row writes; a field that isn't there writes none
abbrev pub field_number : List (List ℕ) → ℕ → Option ℤ
field_number row field = option_and_then signed_number (field_at row field)

-- the number, where it is natural and below the limit
abbrev pub natural_below : ℕ → ℤ → Option ℕ
natural_below limit (pos n) = if nat_lt n limit then Some n else None
natural_below limit (negsuc n) = None
