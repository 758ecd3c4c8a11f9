-- What division leaves of 64 bits.
use Rattle.std.proofs.Common.{◌≡◌, ℕ, zero, suc, ◌-◌, ◌≤◌, ◌^◌, ◌%◌, ℤ, pos, negsuc, neg_ℤ, to_z, of_z, w64, FitsSigned, refl, ap, arith}
use Rattle.std.specs.Int.{int_wrap, int_wrapping_div}
use Rattle.std.specs.Int.RustNames.{int_div, unsigned_abs}
use Rattle.std.proofs.Math.Nat.{div-le_self}

wrap_small : (z : ℤ) → unsigned_abs z ≤ 2 ^ 63 → to_z w64 (of_z w64 z) ≡ int_wrap w64 z
unfolding int_wrap
wrap_small (pos n) h = let e : n ≡ n % 2 ^ 64 = omega arith in ap (to_z w64) e
wrap_small (negsuc n) h = let e : 2 ^ 64 - suc n ≡ 2 ^ 64 - 1 - n % 2 ^ 64 = omega arith in ap (to_z w64) e

unsigned_abs-neg : (n : ℕ) → unsigned_abs (neg_ℤ (pos n)) ≡ n
unsigned_abs-neg zero = refl
unsigned_abs-neg (suc n) = refl

unsigned_abs-quotient : (a b : ℤ) → unsigned_abs (int_div a b) ≤ unsigned_abs a
unsigned_abs-quotient (pos a) (pos b) = div-le_self a b
unsigned_abs-quotient (pos a) (negsuc b) = rw unsigned_abs-neg (div-le_self a (suc b))
unsigned_abs-quotient (negsuc a) (pos b) = rw unsigned_abs-neg (div-le_self (suc a) b)
unsigned_abs-quotient (negsuc a) (negsuc b) = div-le_self (suc a) (suc b)

unsigned_abs-fits : (a : ℤ) → FitsSigned w64 a → unsigned_abs a ≤ 2 ^ 63
unsigned_abs-fits (pos n) fits = omega (arith, fits.sfits)
unsigned_abs-fits (negsuc n) fits = omega (arith, fits.sfits)

-- a quotient is wrapped as a sum is
pub wrapping_div_is : (a b : ℤ) → FitsSigned w64 a → int_wrapping_div w64 a b ≡ int_wrap w64 (int_div a b)
wrapping_div_is a b fits = wrap_small (int_div a b) (omega (arith, unsigned_abs-quotient a b, unsigned_abs-fits a fits))
