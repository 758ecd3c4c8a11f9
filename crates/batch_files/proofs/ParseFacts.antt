-- What `parse` reads, by the words of `specs/Numbers.antt`.
use Rattle.std.proofs.Common.{◌≡◌, ◌≢◌, ◌<◌, ◌≤◌, ◌-◌, ◌^◌, ℕ, ℤ, pos, zero, suc, Bool, true, false, List, [], ◌∷◌, length, drop, get_or, refl, ap, arith, nat_le, inl, inr, ◌∙◌}
use Rattle.std.specs.Prelude.{Some, None, Result, Ok, Err, option_map, neg_ℤ, if◌then◌else◌, ◌&&◌, ◌==◌, slice_index, IsUtf8}
use Rattle.std.specs.Result.{OkIff, result_ok}
use Rattle.std.specs.Str.{all_ascii_digits}
use Rattle.std.specs.Str.Parse.{ParsesSigned, digits_value}
use Rattle.std.specs.Char.{is_ascii_digit}
use Rattle.std.proofs.lemmas.Str.{IsUtf8-from_ascii}
use Rattle.std.proofs.lemmas.Str.Parse.{IsNumeralModel, numerals_by_value, tells_all_ascii_digits, parse_signed_minus, parse_signed_plain}
use Rattle.std.proofs.lemmas.Bool.{cases_Bool}
use Rattle.std.proofs.lemmas.Bool.Decides.{nat_tests}
use mir.Syntax.{w64}
use Rattle.batch_files.specs.meaning.Numbers.{number_up_to, signed_number}
use Rattle.gp_base.specs.meaning.Digits.{is_digits}

decimal : IsNumeralModel (λ ds. all_ascii_digits ds ≡ true) (digits_value 10)
decimal = numerals_by_value _ tells_all_ascii_digits

-- a result that is `Ok` just where a test passes
read_if : {X E : Type 0} (r : Result X E) (test : Bool) (P : Type 0) (v : X) → (test ≡ true → P) → (P → test ≡ true)
    → OkIff r P v → result_ok r ≡ if test then Some v else None
read_if (Ok x) true P v to from h = ap Some h.1
read_if (Ok x) false P v to from h = let bad : false ≡ true = from h.0 in cc bad
read_if (Err e) true P v to from h = absurd (h (to refl))
read_if (Err e) false P v to from h = refl

both : (a b : Bool) → (a && b) ≡ true → (a ≡ true) × (b ≡ true)
both true b e = (refl, e)
both false b e = let bad : false ≡ true = e in cc bad

digits_within : (high : ℕ) (ds : List ℕ) → (is_digits ds && nat_le (digits_value 10 ds) high) ≡ true
    → (all_ascii_digits ds ≡ true) × (0 < length ds) × (digits_value 10 ds ≤ high)
digits_within high ds h =
    let d = both (is_digits ds) _ h in
    let some = both (all_ascii_digits ds) _ d.0 in
    (some.0, grind (arith, nat_tests, some.1), grind (arith, nat_tests, d.1))

are_within : (high : ℕ) (ds : List ℕ) → all_ascii_digits ds ≡ true → 0 < length ds → digits_value 10 ds ≤ high
    → (is_digits ds && nat_le (digits_value 10 ds) high) ≡ true
are_within high ds all some fits = grind (arith, nat_tests)

map_if : {X Y : Type 0} (f : X → Y) (test : Bool) (x : X)
    → (if test then Some (f x) else None) ≡ option_map f (if test then Some x else None)
map_if f true x = refl
map_if f false x = refl

pub signed_reads : {E : Type 0} (text : List ℕ) (r : Result ℤ E) → get_or text 0 0 ≢ 43 → ParsesSigned w64 10 text r
    → result_ok r ≡ signed_number text
signed_reads text r plain h = elim (cases_Bool (slice_index text 0 == 45)) [
  | inl minus ↦
      let first : get_or text 0 0 ≡ 45 = grind (arith, nat_tests, minus) in
      let ds = drop 1 text in
      let read = read_if r (is_digits ds && nat_le (digits_value 10 ds) (2 ^ 63)) _ (neg_ℤ (pos (digits_value 10 ds)))
      (λ t. let w = digits_within (2 ^ 63) ds t in (w.0, w.1, omega (arith, w.2)))
      (λ p. are_within (2 ^ 63) ds p.0 p.1 (omega (arith, p.2)))
      (parse_signed_minus decimal w64 text r h first) in
      rw minus (read ∙ map_if (λ n. neg_ℤ (pos n)) _ _)
  | inr other ↦
      let first : get_or text 0 0 ≢ 45 = grind (arith, nat_tests, other) in
      let read = read_if r (is_digits text && nat_le (digits_value 10 text) (2 ^ 63 - 1)) _ (pos (digits_value 10 text))
      (λ t. let w = digits_within (2 ^ 63 - 1) text t in (w.0, w.1, omega (arith, w.2)))
      (λ p. are_within (2 ^ 63 - 1) text p.0 p.1 (omega (arith, p.2)))
      (parse_signed_plain decimal w64 text r h plain first) in
      rw other (read ∙ map_if pos _ _)
]

-- digits are text
digits_ascii : (ds : List ℕ) → all_ascii_digits ds ≡ true → (i : ℕ) → slice_index ds i < 128
digits_ascii [] all i = omega arith
digits_ascii (c ∷ cs) all zero = let d = both (is_ascii_digit c) _ all in grind (arith, nat_tests, d.0)
digits_ascii (c ∷ cs) all (suc i) = let d = both (is_ascii_digit c) _ all in digits_ascii cs d.1 i

digits_are_text : (high : ℕ) (ds : List ℕ) → (IsUtf8 ds → ⊥) → number_up_to high ds ≡ None
digits_are_text high ds bad = go (all_ascii_digits ds) refl
  where
    go : (b : Bool) → all_ascii_digits ds ≡ b → number_up_to high ds ≡ None
    go true e = absurd (bad (IsUtf8-from_ascii ds (digits_ascii ds e)))
    go false e = rw e refl

pub not_text : (text : List ℕ) → (IsUtf8 text → ⊥) → signed_number text ≡ None
not_text [] bad = absurd (bad (IsUtf8-from_ascii [] (λ i. omega arith)))
not_text (c ∷ cs) bad = go (c == 45) refl
  where
    ascii : all_ascii_digits cs ≡ true → c ≡ 45 → (i : ℕ) → slice_index (c ∷ cs) i < 128
    ascii e minus zero = omega arith
    ascii e minus (suc i) = digits_ascii cs e i

    no_rest : (b : Bool) → all_ascii_digits cs ≡ b → c ≡ 45 → number_up_to (2 ^ 63) cs ≡ None
    no_rest true e minus = absurd (bad (IsUtf8-from_ascii (c ∷ cs) (ascii e minus)))
    no_rest false e minus = rw e refl

    go : (b : Bool) → (c == 45) ≡ b → signed_number (c ∷ cs) ≡ None
    go true e =
        let minus : c ≡ 45 = grind (arith, nat_tests, e) in
        rw e (ap (option_map (λ n. neg_ℤ (pos n))) (no_rest (all_ascii_digits cs) refl minus))
    go false e = rw (e, digits_are_text (2 ^ 63 - 1) (c ∷ cs) bad) refl
