-- Words and digits at the front of bytes.
use Rattle.std.proofs.Common.{◌≡◌, ◌≢◌, ◌<◌, ◌+◌, ℕ, true, false, List, [], ◌∷◌, ◌++◌, length, get_or, take, refl, sym, ap, ◌∙◌}
use Rattle.std.specs.Prelude.{option_map, Option, Some, None, MatchOption}
use denote.Ref.{Bor}
use Rattle.std.specs.Char.{is_ascii_digit}
use Rattle.std.specs.Str.{all_ascii_digits}
use Rattle.std.proofs.lemmas.Bool.{both_ways, and_parts}
use Rattle.std.proofs.lemmas.List.{take_more}
use Rattle.gp_base.specs.Fronts.{IsAfter, begins_with_digit}

-- digits end where no digit comes
pub cut_digits : (ds es r s : List ℕ) → all_ascii_digits ds ≡ true → all_ascii_digits es ≡ true → begins_with_digit r ≡ false
    → begins_with_digit s ≡ false
    → ds ++ r ≡ es ++ s → (ds ≡ es) × (r ≡ s)
cut_digits [] [] r s d e n m same = (refl, same)
cut_digits [] (x ∷ es) r s d e n m same =
    absurd (both_ways (begins_with_digit r) n (ap begins_with_digit same ∙ (and_parts (is_ascii_digit x) (all_ascii_digits es) e).0))
cut_digits (x ∷ ds) [] r s d e n m same =
    absurd (both_ways (begins_with_digit s) m (ap begins_with_digit (sym same) ∙ (and_parts (is_ascii_digit x) (all_ascii_digits ds) d).0))
cut_digits (x ∷ ds) (y ∷ es) r s d e n m same =
    let tails : ds ++ r ≡ es ++ s = cc in
    let heads : x ≡ y = cc in
    let rest =
    cut_digits ds es r s (and_parts (is_ascii_digit x) (all_ascii_digits ds) d).1
    (and_parts (is_ascii_digit y) (all_ascii_digits es) e).1 n m tails in
    let front = rest.0 in
    (cc, rest.1)

-- one more digit
pub one_more_digit : (bytes : List ℕ) (k : ℕ) → k < length bytes → all_ascii_digits (take k bytes) ≡ true
    → is_ascii_digit (get_or bytes k 0) ≡ true
    → all_ascii_digits (take (k + 1) bytes) ≡ true
one_more_digit bytes k l digits here = rw (take_more bytes k 0 l) (all_push (take k bytes) (get_or bytes k 0) digits here)
  where
    all_push : (ds : List ℕ) (d : ℕ) → all_ascii_digits ds ≡ true → is_ascii_digit d ≡ true → all_ascii_digits (ds ++ d ∷ []) ≡ true
    all_push [] d e f = rw f refl
    all_push (x ∷ ds) d e f = let both = and_parts (is_ascii_digit x) (all_ascii_digits ds) e in rw (both.0, all_push ds d both.1 f) refl

-- what `strip_prefix` answers
pub is_after : (word bytes : List ℕ) (r : Option (Bor (List ℕ)))
    → MatchOption r ((rest : List ℕ) → bytes ≢ word ++ rest) (λ x. bytes ≡ word ++ x.now)
    → IsAfter word bytes (option_map (λ rest. rest.now) r)
is_after word bytes None h = h
is_after word bytes (Some x) h = h
