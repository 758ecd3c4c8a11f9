-- Numbers as texts write them.
use Rattle.std.specs.Prelude.{◌&&◌, ℕ, Bool, List, length, nat_lt}
use Rattle.std.specs.Str.{all_ascii_digits}

-- one or more decimal digits and nothing else
abbrev pub is_digits : List ℕ → Bool
is_digits text = all_ascii_digits text && nat_lt 0 (length text)
