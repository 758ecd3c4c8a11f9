-- Numbers at the front of bytes.
use Rattle.std.proofs.Common.{◌≡◌, ◌≢◌, ◌<◌, ◌^◌, ◌||◌, ◌==◌, ℕ, ℤ, pos, negsuc, true, false, List, [], ◌∷◌, ◌++◌, length, refl, sym, ap, ◌∙◌, subst, arith, w64, to_z, of_z}
use Rattle.std.specs.Prelude.{Some, None, Result, IsUtf8, FitsSigned}
use Rattle.std.specs.Result.{result_ok}
use Rattle.std.specs.Fmt.{signed_decimal}
use Rattle.std.specs.Int.Signed.{mag}
use Rattle.std.specs.Char.{is_ascii_digit}
use Rattle.std.specs.Str.{all_ascii_digits}
use Rattle.std.specs.Str.Parse.{ParsesSigned}
use Rattle.std.proofs.lemmas.Bool.{both_ways, and_parts}
use Rattle.std.proofs.lemmas.Fmt.{parse-signed_decimal, IsAscii-signed}
use Rattle.std.proofs.lemmas.Int.{to_z-of_z}
use Rattle.std.proofs.lemmas.Str.{IsUtf8-from_ascii}
use Rattle.gp_base.specs.Fronts.{begins_with_digit}
use Rattle.gp_base.proofs.Digits.{cut_digits}
use Rattle.retirement_log.specs.meaning.Rows.{IsWide}
use Rattle.gp_resume.specs.inner.Fronts.{IsOnlyFront, EndsNumber, is_numeral, goes_on}
use Rattle.gp_resume.proofs.Printed.{printed-numeral, printed-some, same-printed}

-- ---- how a wide number is printed

pub wide-mag : (n : ℤ) → IsWide n → mag n < 2 ^ 63
wide-mag (pos n) l = l
wide-mag (negsuc n) l = l

pub wide-fits : (n : ℤ) → IsWide n → FitsSigned w64 n
wide-fits n l = record { sfits = wide-mag n l }

-- a wide number keeps its value in 64 bits
pub kept : (n : ℤ) → IsWide n → to_z w64 (of_z w64 n) ≡ n
kept n l = to_z-of_z w64 n (wide-fits n l)

-- what goes on after a byte
pub goes-on-digit : (front rest : List ℕ) → 0 < length front → goes_on front rest ≡ begins_with_digit rest
goes-on-digit front [] some = refl
goes-on-digit [] (c ∷ rest) some = absurd (omega (arith, some))
goes-on-digit (d ∷ front) (c ∷ rest) some = refl

pub printed-stops : (n : ℤ) (rest : List ℕ) → EndsNumber rest → goes_on (signed_decimal n) rest ≡ false
printed-stops n rest ends = goes-on-digit (signed_decimal n) rest (printed-some n) ∙ ends

pub stops-printed : (n : ℤ) (rest : List ℕ) → goes_on (signed_decimal n) rest ≡ false → EndsNumber rest
stops-printed n rest stops = sym (goes-on-digit (signed_decimal n) rest (printed-some n)) ∙ stops

-- ---- where digits end

-- where there is nothing in front, a numeral that is not empty would go on
numeral-goes-on : (x : ℕ) (es r s : List ℕ) → is_numeral (x ∷ es) ≡ true → r ≡ (x ∷ es) ++ s → goes_on [] r ≡ true
numeral-goes-on x es r s e same = ap (goes_on []) same ∙ (and_parts (is_ascii_digit x || x == 45) (all_ascii_digits es) e).0

-- so numerals end where nothing goes on
pub cut-numerals : (ds es r s : List ℕ) → is_numeral ds ≡ true → is_numeral es ≡ true → goes_on ds r ≡ false → goes_on es s ≡ false
    → ds ++ r ≡ es ++ s → (ds ≡ es) × (r ≡ s)
cut-numerals [] [] r s d e n m same = (refl, same)
cut-numerals [] (x ∷ es) r s d e n m same = absurd (both_ways (goes_on [] r) n (numeral-goes-on x es r s e same))
cut-numerals (x ∷ ds) [] r s d e n m same = absurd (both_ways (goes_on [] s) m (numeral-goes-on x ds s r d (sym same)))
cut-numerals (x ∷ ds) (y ∷ es) r s d e n m same =
    let tails : ds ++ r ≡ es ++ s = cc in
    let heads : x ≡ y = cc in
    let rest =
    cut_digits ds es r s (and_parts (is_ascii_digit x || x == 45) (all_ascii_digits ds) d).1
    (and_parts (is_ascii_digit y || y == 45) (all_ascii_digits es) e).1
    (sym (goes-on-digit (x ∷ ds) r (omega arith)) ∙ n) (sym (goes-on-digit (y ∷ es) s (omega arith)) ∙ m) tails in
    let front = rest.0 in
    (cc, rest.1)

-- ---- a number is read in one way

pub number-once : (n m : ℤ) (r s : List ℕ) → IsWide n → EndsNumber r → EndsNumber s → signed_decimal n ++ r ≡ signed_decimal m ++ s
    → (n ≡ m) × (r ≡ s)
number-once n m r s wide nr ms same =
    let cut = cut-numerals (signed_decimal n) (signed_decimal m) r s (printed-numeral n) (printed-numeral m) (printed-stops n r nr)
    (printed-stops m s ms) same in
    (same-printed n m wide cut.0, cut.1)

pub number-front : (bytes rest : List ℕ) (n : ℤ) → IsWide n → EndsNumber rest → bytes ≡ signed_decimal n ++ rest
    → IsOnlyFront signed_decimal IsWide EndsNumber bytes n rest
number-front bytes rest n l ends is =
    record { fit = l; bytes_are = is; only = λ m after lm other same. number-once m n after rest lm other ends (sym same ∙ is) }

-- no number stands at the front where the numeral there is that of none
pub no-number : (bytes ds r : List ℕ) → bytes ≡ ds ++ r → is_numeral ds ≡ true → goes_on ds r ≡ false
    → ((n : ℤ) → IsWide n → ds ≢ signed_decimal n)
    → (n : ℤ) (rest : List ℕ) → IsWide n → EndsNumber rest → bytes ≢ signed_decimal n ++ rest
no-number bytes ds r is numeral stops none n rest l ends same =
    none n l (cut-numerals ds (signed_decimal n) r rest numeral (printed-numeral n) stops (printed-stops n rest ends) (sym is ∙ same)).0

-- and where it is a number's, that stands there
pub some-number : (bytes ds r : List ℕ) (n : ℤ) → bytes ≡ ds ++ r → goes_on ds r ≡ false → IsWide n → ds ≡ signed_decimal n
    → IsOnlyFront signed_decimal IsWide EndsNumber bytes n r
some-number bytes ds r n is stops l printed =
    number-front bytes r n l (stops-printed n r (subst (λ front. goes_on front r ≡ false) printed stops))
    (is ∙ ap (λ front. front ++ r) printed)

-- ---- how its bytes are read

-- printed digits are text
pub is-text : (n : ℤ) (bytes : List ℕ) → IsWide n → bytes ≡ signed_decimal n → IsUtf8 bytes
is-text n bytes l e = subst IsUtf8 (sym e) (IsUtf8-from_ascii (signed_decimal n) (IsAscii-signed n (wide-mag n l)))

-- a number that was parsed is the one that the bytes are printed for
parsed : {E : Type 0} (n : ℤ) (bytes : List ℕ) (r : Result ℤ E) → IsWide n → bytes ≡ signed_decimal n → ParsesSigned w64 10 bytes r
    → result_ok r ≡ Some n
parsed n bytes r l e p = ap result_ok (parse-signed_decimal w64 n bytes r (wide-fits n l) (wide-mag n l) e p)

pub none-parsed : {E : Type 0} (n : ℤ) (bytes : List ℕ) (r : Result ℤ E) → IsWide n → bytes ≡ signed_decimal n → ParsesSigned w64 10 bytes r
    → result_ok r ≡ None → ⊥
none-parsed n bytes r l e p none = let some = parsed n bytes r l e p in let bad = sym some ∙ none in cc

pub same-number : {E : Type 0} (n m : ℤ) (bytes : List ℕ) (r : Result ℤ E) → IsWide n → bytes ≡ signed_decimal n
    → ParsesSigned w64 10 bytes r → result_ok r ≡ Some m → n ≡ m
same-number n m bytes r l e p some = let other = parsed n bytes r l e p in let both = sym other ∙ some in cc
