-- How numbers are printed, wide or not.
--
-- A number is printed with its last 64 digits at most. So one that is not wide is never printed as a wide one: either all its digits are
-- there, or there are too many of them.
use Rattle.std.proofs.Common.{◌≡◌, ◌<◌, ◌≤◌, ◌+◌, ◌/◌, ◌%◌, ◌^◌, ◌==◌, cond, inl, inr, ℕ, zero, suc, ℤ, pos, negsuc, Bool, true, false, List, [], ◌∷◌, length, drop, refl, sym, ap, subst, ◌∙◌, arith}
use Rattle.std.specs.Prelude.{decimal}
use Rattle.std.specs.Fmt.{signed_decimal, digits, digits_onto, digit_glyph}
use Rattle.std.specs.Char.{is_ascii_digit}
use Rattle.std.specs.Str.{all_ascii_digits}
use Rattle.std.specs.Str.Parse.{digits_value}
use Rattle.std.proofs.Math.Nat.{pow-zero, pow-suc}
use Rattle.std.proofs.lemmas.Bool.{and_parts, ne_eqb, lt-ltb, cases_lt}
use Rattle.std.proofs.lemmas.Fmt.{decimal_is_IsNumeral, decimal_is_IsNumeral_wide, length-decimal-le}
use Rattle.std.proofs.lemmas.Str.Parse.{tells_all_ascii_digits}
use Rattle.retirement_log.specs.meaning.Rows.{IsWide}
use Rattle.gp_resume.specs.inner.Fronts.{is_numeral}

-- the last digits of a number, 64 at most
last-digits : (n : ℕ) → decimal n ≡ digits_onto 64 10 false n []
unfolding digits
last-digits n = refl

module _ (P : List ℕ → Type 0) where
  -- one digit goes before those that are there, or more
  each-digit : (k n : ℕ) (behind : List ℕ) → P (digit_glyph false (n % 10) ∷ behind)
      → P (digits_onto k 10 false (n / 10) (digit_glyph false (n % 10) ∷ behind))
      → P (digits_onto (suc k) 10 false n behind)
  each-digit k n behind one more = go (n / 10 == 0)
    where
      go : (b : Bool)
          → P (cond b (digit_glyph false (n % 10) ∷ behind) (digits_onto k 10 false (n / 10) (digit_glyph false (n % 10) ∷ behind)))
      go true = one
      go false = more

glyph-digit : (n : ℕ) (behind : List ℕ) → all_ascii_digits behind ≡ true → all_ascii_digits (digit_glyph false (n % 10) ∷ behind) ≡ true
glyph-digit n behind digits_behind =
    let small : n % 10 < 10 = omega arith in
    let glyph : digit_glyph false (n % 10) ≡ 48 + n % 10 = ap (λ b. cond b (48 + n % 10) (87 + n % 10)) (lt-ltb (n % 10) 10 small) in
    tells_all_ascii_digits.more (digit_glyph false (n % 10)) behind (omega (arith, glyph, small), omega (arith, glyph, small)) digits_behind

digits-alone : (k n : ℕ) (behind : List ℕ) → all_ascii_digits behind ≡ true → all_ascii_digits (digits_onto k 10 false n behind) ≡ true
digits-alone zero n behind digits_behind = digits_behind
digits-alone (suc k) n behind digits_behind =
    let here = glyph-digit n behind digits_behind in
    each-digit (λ ds. all_ascii_digits ds ≡ true) k n behind here (digits-alone k (n / 10) (digit_glyph false (n % 10) ∷ behind) here)

no-fewer : (k n : ℕ) (behind : List ℕ) → length behind ≤ length (digits_onto k 10 false n behind)
no-fewer zero n behind = omega arith
no-fewer (suc k) n behind =
    let more = no-fewer k (n / 10) (digit_glyph false (n % 10) ∷ behind) in
    each-digit (λ ds. length behind ≤ length ds) k n behind (omega arith) (omega (arith, more))

one-digit : (k n : ℕ) → 0 < length (digits_onto (suc k) 10 false n [])
one-digit k n =
    let more = no-fewer k (n / 10) (digit_glyph false (n % 10) ∷ []) in
    each-digit (λ ds. 0 < length ds) k n [] (omega arith) (omega (arith, more))

ten-some : (k : ℕ) → 0 < 10 ^ k
ten-some zero = omega (arith, pow-zero 10)
ten-some (suc k) = omega (arith, pow-suc 10 k, ten-some k)

-- where there are more digits than are printed, as many as can be are printed
many-digits : (k n : ℕ) (behind : List ℕ) → 10 ^ k ≤ n → length (digits_onto k 10 false n behind) ≡ k + length behind
many-digits zero n behind l = omega arith
many-digits (suc k) n behind l =
    let ten = pow-suc 10 k in
    let some = ten-some k in
    let rest : 10 ^ k ≤ n / 10 = omega (arith, ten, l) in
    let goes : n / 10 == 0 ≡ false = ne_eqb (n / 10) 0 (λ none. omega (arith, rest, some, none)) in
    let more = many-digits k (n / 10) (digit_glyph false (n % 10) ∷ behind) rest in
    ap (λ b. length (cond b (digit_glyph false (n % 10) ∷ behind) (digits_onto k 10 false (n / 10) (digit_glyph false (n % 10) ∷ behind))))
    goes
    ∙ (more ∙ omega arith)

printed-digits : (n : ℕ) → all_ascii_digits (decimal n) ≡ true
printed-digits n = subst (λ ds. all_ascii_digits ds ≡ true) (sym (last-digits n)) (digits-alone 64 n [] refl)

digits-numeral : (ds : List ℕ) → all_ascii_digits ds ≡ true → is_numeral ds ≡ true
digits-numeral [] e = refl
digits-numeral (d ∷ ds) e = let both = and_parts (is_ascii_digit d) (all_ascii_digits ds) e in rw (both.0, both.1) refl

pub printed-numeral : (z : ℤ) → is_numeral (signed_decimal z) ≡ true
printed-numeral (pos n) = digits-numeral (decimal n) (printed-digits n)
printed-numeral (negsuc n) = printed-digits (suc n)

-- a number that is printed has a byte
pub printed-some : (z : ℤ) → 0 < length (signed_decimal z)
printed-some (pos n) = subst (λ ds. 0 < length ds) (sym (last-digits n)) (one-digit 63 n)
printed-some (negsuc n) = omega arith

same-digits : (n m : ℕ) → m < 2 ^ 64 → decimal n ≡ decimal m → n ≡ m
same-digits n m small same =
    elim (cases_lt n (10 ^ 64)) [
      | inl l ↦ sym (decimal_is_IsNumeral_wide n l).1 ∙ (ap (digits_value 10) same ∙ (decimal_is_IsNumeral m small).1)
      | inr l ↦
          let all = ap length (last-digits n) ∙ many-digits 64 n [] l in
          let few = length-decimal-le 20 m (omega arith) (omega (arith, small)) small in
          let size = ap length same in
          absurd (omega (arith, all, few, size))
    ]

-- digits are no minus with digits
no-minus : (n m : ℕ) → decimal n ≡ 45 ∷ decimal m → ⊥
no-minus n m same = let digits = subst (λ ds. all_ascii_digits ds ≡ true) same (printed-digits n) in cc digits

-- what is printed as a wide number is that number
pub same-printed : (z y : ℤ) → IsWide z → signed_decimal z ≡ signed_decimal y → z ≡ y
same-printed (pos m) (pos n) l same = ap pos (sym (same-digits n m (omega (arith, l)) (sym same)))
same-printed (pos m) (negsuc n) l same = absurd (no-minus m (suc n) same)
same-printed (negsuc m) (pos n) l same = absurd (no-minus n (suc m) (sym same))
same-printed (negsuc m) (negsuc n) l same =
    let next = same-digits (suc n) (suc m) (omega (arith, l)) (sym (ap (drop 1) same)) in ap negsuc (omega (arith, next))
