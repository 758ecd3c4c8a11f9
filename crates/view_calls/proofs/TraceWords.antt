-- Where the option of a trace stands among words, and the words without it.
use Rattle.std.proofs.Common.{◌≡◌, ◌∙◌, ◌<◌, ◌≤◌, ◌+◌, ◌-◌, ℕ, zero, suc, Bool, true, false, refl, sym, ap, ap₂, arith, List, [], ◌∷◌, ◌++◌, length, get_or, take, drop, codes, Some, None, nat_lt, if◌then◌else◌, String, string_bytes, append_assoc}
use Rattle.std.specs.Str.{bytes_eq}
use Rattle.std.specs.declared.alloc.Global.{Global}
use Rattle.std.proofs.lemmas.Bool.Decides.{nat_tests}
use Rattle.std.proofs.lemmas.List.{drop_more, length-drop, take-map, drop-map, map-append, length-map, get_or-map}
use Rattle.command_line.specs.meaning.Words.{texts}
use Rattle.view_calls.specs.meaning.Commands.{order_asked, trace_at, untraced, traced_by, timeline_at, timeline_by, run_by}

drop-past : {A : Type 0} (xs : List A) (i : ℕ) → length xs ≤ i → drop i xs ≡ []
drop-past [] zero past = refl
drop-past [] (suc i) past = refl
drop-past (x ∷ xs) zero past = absurd (omega (arith, past))
drop-past (x ∷ xs) (suc i) past = drop-past xs i (omega (arith, past))

-- all that is left of a list after its first elements
pub rest-taken : {A : Type 0} (xs : List A) (n : ℕ) → take (length xs - n) (drop n xs) ≡ drop n xs
rest-taken xs n = take-all (drop n xs) (length xs - n) (let size = length-drop n xs in omega (arith, size))
  where
    take-all : {A : Type 0} (xs : List A) (n : ℕ) → length xs ≤ n → take n xs ≡ xs
    take-all [] zero past = refl
    take-all [] (suc n) past = refl
    take-all (x ∷ xs) zero past = absurd (omega (arith, past))
    take-all (x ∷ xs) (suc n) past = ap (λ l. x ∷ l) (take-all xs n (omega (arith, past)))

-- the option stands here, or further on
next-at : (word : List ℕ) (words : List (List ℕ)) (b : Bool) → bytes_eq word (codes "--trace") ≡ b
    → trace_at (word ∷ words) ≡ (if b then 0 else suc (trace_at words))
next-at word words b is = ap (λ b. if b then 0 else suc (trace_at words)) is

module _ (words : List (String Global)) (at : ℕ) where
  left-at : (d : String Global) → at < length words
      → trace_at (texts (drop at words)) ≡ trace_at (string_bytes (get_or words at d) ∷ texts (drop (at + 1) words))
  left-at d less = ap (λ left. trace_at (texts left)) (drop_more words at d less)

  pub stands-here : (d : String Global) → at < length words → at + trace_at (texts (drop at words)) ≡ trace_at (texts words)
      → bytes_eq (string_bytes (get_or words at d)) (codes "--trace") ≡ true → at ≡ trace_at (texts words)
  stands-here d less so_far is =
      let here = left-at d less ∙ next-at (string_bytes (get_or words at d)) (texts (drop (at + 1) words)) true is in
      omega (arith, so_far, here)

  pub stands-further : (d : String Global) → at < length words → at + trace_at (texts (drop at words)) ≡ trace_at (texts words)
      → bytes_eq (string_bytes (get_or words at d)) (codes "--trace") ≡ false
      → (at + 1) + trace_at (texts (drop (at + 1) words)) ≡ trace_at (texts words)
  stands-further d less so_far is =
      let here = left-at d less ∙ next-at (string_bytes (get_or words at d)) (texts (drop (at + 1) words)) false is in
      omega (arith, so_far, here)

  pub stands-nowhere : length words ≤ at → at + trace_at (texts (drop at words)) ≡ trace_at (texts words) → at ≡ trace_at (texts words)
  stands-nowhere past so_far = let none = ap (λ left. trace_at (texts left)) (drop-past words at past) in omega (arith, so_far, none)

-- one word more was appended
pub one-more : (before after words : List (String Global)) (copy : String Global) (old all : List (List ℕ)) (i : ℕ) (d : String Global)
    → i < length words
    → after ≡ before ++ copy ∷ [] → string_bytes copy ≡ string_bytes (get_or words i d) → texts before ++ texts (drop i words) ≡ all
    → texts after ++ texts (drop (i + 1) words) ≡ all
one-more before after words copy old all i d less is same so_far =
    ap (λ a. texts a ++ texts (drop (i + 1) words)) is
    ∙ ap (λ a. a ++ texts (drop (i + 1) words)) (map-append string_bytes before (copy ∷ []))
    ∙ append_assoc (texts before) (string_bytes copy ∷ []) (texts (drop (i + 1) words))
    ∙ ap (λ w. texts before ++ w ∷ texts (drop (i + 1) words)) same
    ∙ sym (ap (λ left. texts before ++ texts left) (drop_more words i d less)) ∙ so_far

pub no-more : (before words : List (String Global)) (all : List (List ℕ)) (i : ℕ) → length words ≤ i
    → texts before ++ texts (drop i words) ≡ all → texts before ++ [] ≡ all
no-more before words all i past so_far = sym (ap (λ left. texts before ++ texts left) (drop-past words i past)) ∙ so_far

-- the words before the option and those after its file are the words without both
pub without-option : (words first last : List (String Global)) (at : ℕ) → first ≡ take at words → last ≡ drop (at + 2) words
    → texts first ++ texts last ≡ untraced at (texts words)
without-option words first last at first_is last_is =
    ap₂ (λ f l. texts f ++ texts l) first_is last_is
    ∙ ap₂ (λ f l. f ++ l) (sym (take-map string_bytes at words)) (sym (drop-map string_bytes (at + 2) words))

-- the word after the option
pub word-at : (words : List (String Global)) (at : ℕ) (d : String Global) → at < length words
    → string_bytes (get_or words at d) ≡ get_or (texts words) at []
word-at words at d less = sym (get_or-map string_bytes words at d [] less)

pub same-length : (words : List (String Global)) → length (texts words) ≡ length words
same-length words = length-map words string_bytes

-- the file of a trace stands after the option
pub behind-option : (words : List (String Global)) (at : ℕ) (file : List ℕ) (rest : List (List ℕ)) → at ≡ trace_at (texts words)
    → at + 1 < length words
    → file ≡ get_or (texts words) (at + 1) [] → rest ≡ untraced at (texts words) → traced_by (Some file) rest ≡ timeline_by (texts words)
behind-option words at file rest is less file_is rest_is =
    ap₂ (λ f r. traced_by (Some f) r) file_is rest_is
    ∙ sym (ap (λ b. if b then traced_by (Some (get_or (texts words) (at + 1) [])) (untraced at (texts words))
    else traced_by None (texts words)) passes)
    ∙ ap (λ a. timeline_at a (texts words)) is
  where
    passes : nat_lt (at + 1) (length (texts words)) ≡ true
    passes = let same = same-length words in grind (arith, nat_tests, less, same)

-- what the first word says
pub timeline-first : (words : List (String Global)) (word : String Global) → 1 ≤ length words → word ≡ get_or words 0 word
    → bytes_eq (string_bytes word) (codes "order") ≡ false → bytes_eq (string_bytes word) (codes "timeline") ≡ true
    → timeline_by (texts words) ≡ run_by (texts words)
timeline-first [] word some first other named = absurd (omega (arith, some))
timeline-first (w ∷ words) word some first other named =
    let all = texts (w ∷ words) in
    sym (ap (λ b. if b then timeline_by all else None) (ap (λ s. bytes_eq (string_bytes s) (codes "timeline")) (sym first) ∙ named))
    ∙ sym (ap (λ b. if b then order_asked all else (if bytes_eq (string_bytes w) (codes "timeline") then timeline_by all else None))
    (ap (λ s. bytes_eq (string_bytes s) (codes "order")) (sym first) ∙ other))
