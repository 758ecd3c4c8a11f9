-- Numbers as command lines write them.
use Rattle.std.specs.Prelude.{ℕ, ◌&&◌, List, nat_le, Option, Some, None, if◌then◌else◌}
use Rattle.std.specs.Str.Parse.{digits_value}
use Rattle.gp_base.specs.meaning.Digits.{is_digits}

-- the number that a text of digits writes, where it lies within the limits
abbrev pub number_between : (low high : ℕ) → List ℕ → Option ℕ
number_between low high text =
    let n = digits_value 10 text in
    if is_digits text && (nat_le low n && nat_le n high) then Some n else None
