-- What is told of attempts, by a map of those whose results were taken.
use Rattle.std.proofs.Common.{◌≡◌, ℕ, zero, suc, ◌+◌, ◌<◌, ◌≤◌, Bool, true, false, cond, ◌&&◌, nat_eq, nat_lt, List, [], ◌∷◌, length, drop, get_or, Option, Some, refl, sym, ap, ap₂, ◌∙◌, arith}
use Rattle.std.specs.Prelude.{unwrap_or}
use Rattle.std.specs.declared.cmp.Ordering.{Ordering}
use Rattle.std.specs.declared.cmp.Ordering.TheVariants.{Less, Equal, Greater}
use Rattle.std.specs.Ordering.{is_eq, nat_cmp, ordering_then}
use Rattle.std.specs.Cmp.{tied_then}
use Rattle.std.specs.BTreeMap.{BTreeMap, get, is_at}
use Rattle.std.specs.Map.{lookup}
use Rattle.std.proofs.lemmas.Bool.{false≢true}
use Rattle.std.proofs.lemmas.List.{drop_more}
use Rattle.std.proofs.lemmas.Bool.Decides.{nat_tests}
use Rattle.gp_audit.specs.declared.line.TraceLine.{TraceLine}
use Rattle.run_picture.specs.declared.told.Told.{Told}
use Rattle.run_picture.specs.meaning.Attempts.{told_by, told_from}

abbrev pub key_cmp : ℕ × ℕ → ℕ × ℕ → Ordering
key_cmp a b = ordering_then (nat_cmp a.0 b.0) (nat_cmp a.1 b.1)

same_number : (x y : ℕ) → is_eq (nat_cmp x y) ≡ nat_eq x y
same_number x y = go (nat_lt x y) (nat_eq x y) refl refl
  where
    go : (less same : Bool) → nat_lt x y ≡ less → nat_eq x y ≡ same → is_eq (cond less Less (cond same Equal Greater)) ≡ same
    go true true less same = let never : nat_lt x y ≡ false = grind (arith, nat_tests, same) in absurd (false≢true (sym never ∙ less))
    go true false less same = refl
    go false true less same = refl
    go false false less same = refl

-- keys that the order cannot tell apart are one attempt of one position
same_key : (a b : ℕ × ℕ) → is_at (key_cmp a) b ≡ (nat_eq a.0 b.0 && nat_eq a.1 b.1)
same_key a b = sym (tied_then (nat_cmp a.0 b.0) (nat_cmp a.1 b.1)) ∙ ap₂ (λ x y. x && y) (same_number a.0 b.0) (same_number a.1 b.1)

pushed : (b : Bool) (value others : Told) (before : Option Told)
    → unwrap_or (cond b (Some value) before) others ≡ cond b value (unwrap_or before others)
pushed true value others before = refl
pushed false value others before = refl

-- a result that is noted is what is told of its attempt, and all else stays
pub noted : (before after : BTreeMap (ℕ × ℕ) Told) (others value : Told) (key : ℕ × ℕ)
    → ((q : ℕ × ℕ) → get key_cmp after q ≡ cond (is_at (key_cmp key) q) (Some value) (get key_cmp before q)) → (p attempt : ℕ)
    → unwrap_or (get key_cmp after (p, attempt)) others
    ≡ cond (nat_eq key.0 p && nat_eq key.1 attempt) value (unwrap_or (get key_cmp before (p, attempt)) others)
noted before after others value key is p attempt =
    ap (λ t. unwrap_or t others) (is (p, attempt))
    ∙ pushed (is_at (key_cmp key) (p, attempt)) value others (get key_cmp before (p, attempt))
    ∙ ap (λ b. cond b value (unwrap_or (get key_cmp before (p, attempt)) others)) (same_key key (p, attempt))

-- where nothing is noted, nothing else is told
pub unnoted : (taken : BTreeMap (ℕ × ℕ) Told) (others : Told) (p attempt : ℕ) → taken.entries ≡ []
    → unwrap_or (get key_cmp taken (p, attempt)) others ≡ others
unnoted taken others p attempt empty = ap (λ entries. unwrap_or (lookup (is_at (key_cmp (p, attempt))) entries) others) empty

-- one line more was read, or no line is left
pub told-next : (p attempt : ℕ) (before after all : Told) (i : ℕ) (lines : List TraceLine) (d : TraceLine) → i < length lines
    → told_from p attempt before (drop i lines) ≡ all → after ≡ told_by p attempt before (get_or lines i d)
    → told_from p attempt after (drop (i + 1) lines) ≡ all
told-next p attempt before after all i lines d less so_far is =
    ap (λ t. told_from p attempt t (drop (i + 1) lines)) is ∙ sym (ap (told_from p attempt before) (drop_more lines i d less)) ∙ so_far

pub told-last : (p attempt : ℕ) (before all : Told) (i : ℕ) (lines : List TraceLine) → length lines ≤ i
    → told_from p attempt before (drop i lines) ≡ all → before ≡ all
told-last p attempt before all i lines past so_far = sym (ap (told_from p attempt before) (drop-past lines i past)) ∙ so_far
  where
    drop-past : (xs : List TraceLine) (i : ℕ) → length xs ≤ i → drop i xs ≡ []
    drop-past [] zero past = refl
    drop-past [] (suc i) past = refl
    drop-past (x ∷ xs) zero past = absurd (omega (arith, past))
    drop-past (x ∷ xs) (suc i) past = drop-past xs i (omega (arith, past))
