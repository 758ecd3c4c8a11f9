-- What `parse` reads of a text, as a number within limits.
use Rattle.std.proofs.Common.{◌≡◌, ◌≢◌, ◌<◌, ◌≤◌, ◌-◌, ◌^◌, ℕ, Bool, true, false, List, length, get_or, refl, ap, arith, nat_le}
use Rattle.std.specs.Prelude.{Some, None, Result, Ok, Err, if◌then◌else◌, ◌&&◌}
use Rattle.std.specs.Result.{OkIff, result_ok}
use Rattle.std.specs.Str.{all_ascii_digits}
use Rattle.std.specs.Str.Parse.{ParsesUnsigned, digits_value}
use Rattle.std.proofs.lemmas.Str.Parse.{IsNumeralModel, numerals_by_value, tells_all_ascii_digits, parse_plain}
use Rattle.std.proofs.lemmas.Bool.{cases_Bool}
use Rattle.std.proofs.Common.{inl, inr}
use Rattle.std.proofs.lemmas.Bool.Decides.{nat_tests}
use Rattle.command_line.specs.meaning.Numbers.{number_between}
use Rattle.gp_base.specs.meaning.Digits.{is_digits}

digits_model : IsNumeralModel (λ ds. all_ascii_digits ds ≡ true) (digits_value 10)
digits_model = numerals_by_value _ tells_all_ascii_digits

-- a result that is `Ok` just where a test passes
read_if : {X E : Type 0} (r : Result X E) (test : Bool) (P : Type 0) (v : X) → (test ≡ true → P) → (P → test ≡ true)
    → OkIff r P v → result_ok r ≡ if test then Some v else None
read_if (Ok x) true P v to from h = ap Some h.1
read_if (Ok x) false P v to from h = let bad : false ≡ true = from h.0 in cc bad
read_if (Err e) true P v to from h = absurd (h (to refl))
read_if (Err e) false P v to from h = refl

both : (a b : Bool) → (a && b) ≡ true → (a ≡ true) × (b ≡ true)
both true b e = (refl, e)
both false b e = let bad : false ≡ true = e in cc bad

within : (low high : ℕ) (ds : List ℕ) → (is_digits ds && (nat_le low (digits_value 10 ds) && nat_le (digits_value 10 ds) high)) ≡ true
    → (all_ascii_digits ds ≡ true) × (0 < length ds) × (low ≤ digits_value 10 ds) × (digits_value 10 ds ≤ high)
within low high ds h =
    let d = both (is_digits ds) _ h in
    let some = both (all_ascii_digits ds) _ d.0 in
    let range = both (nat_le low (digits_value 10 ds)) _ d.1 in
    (some.0, grind (arith, nat_tests, some.1), grind (arith, nat_tests, range.0), grind (arith, nat_tests, range.1))

is_within : (low high : ℕ) (ds : List ℕ) → all_ascii_digits ds ≡ true → 0 < length ds → low ≤ digits_value 10 ds → digits_value 10 ds ≤ high
    → (is_digits ds && (nat_le low (digits_value 10 ds) && nat_le (digits_value 10 ds) high)) ≡ true
is_within low high ds a b c d = grind (arith, nat_tests)

-- what is read is the number within the widest limits
pub reads : {E : Type 0} (text : List ℕ) (r : Result ℕ E) → get_or text 0 0 ≢ 43 → ParsesUnsigned 64 10 text r
    → result_ok r ≡ number_between 0 (2 ^ 64 - 1) text
reads text r plain h = read_if r _ _ _
    (λ t. let w = within 0 (2 ^ 64 - 1) text t in (w.0, w.1, omega (arith, w.3)))
    (λ p. is_within 0 (2 ^ 64 - 1) text p.0 p.1 (omega arith) (omega (arith, p.2)))
    (parse_plain digits_model 64 text r h plain)

-- narrower limits
pub narrowed : (low high n : ℕ) (text : List ℕ) → number_between 0 (2 ^ 64 - 1) text ≡ Some n
    → number_between low high text ≡ if nat_le low n && nat_le n high then Some n else None
narrowed low high n text h = go (is_digits text) (nat_le 0 (digits_value 10 text)) (nat_le (digits_value 10 text) (2 ^ 64 - 1)) refl h
  where
    go : (a z b : Bool) → is_digits text ≡ a → (if a && (z && b) then Some (digits_value 10 text) else None) ≡ Some n
        → number_between low high text ≡ if nat_le low n && nat_le n high then Some n else None
    go true true true e h = let same : digits_value 10 text ≡ n = cc h in rw (e, same) refl
    go true true false e h = cc h
    go true false b e h = cc h
    go false z b e h = cc h

pub no_number : (low high : ℕ) (text : List ℕ) → high < 2 ^ 64 → number_between 0 (2 ^ 64 - 1) text ≡ None → number_between low high text ≡ None
no_number low high text room h =
    elim (cases_Bool (is_digits text && (nat_le low (digits_value 10 text) && nat_le (digits_value 10 text) high))) [
      | inl found ↦
          let w = within low high text found in
          let all = is_within 0 (2 ^ 64 - 1) text w.0 w.1 (omega arith) (omega (arith, w.3)) in
          let some = rw all at h in cc some
      | inr other ↦ rw other refl
    ]
