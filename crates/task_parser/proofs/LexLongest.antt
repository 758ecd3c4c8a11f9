-- The piece at the front of a text is its longest token. First, the piece is a token; then, no token at the front is
-- longer. Both go by the first byte: a token at the front is of that byte's class, and of each class it is known how
-- far its tokens can reach.
use Rattle.std.proofs.Common.{leb, ◌≡◌, ℕ, zero, suc, ◌+◌, ◌≤◌, Bool, true, false, cond, ◌&&◌, eqb, List, [], ◌∷◌, ◌++◌, length, take, drop, Option, Some, None, refl, ap, ◌∙◌, sym, subst, arith, length-take}
use Rattle.std.specs.Prelude.{take_while}
use Rattle.std.specs.List.{prefix_len, list_all}
use Rattle.std.specs.Char.{is_ascii_digit}
use Rattle.std.proofs.lemmas.List.Sums.{AllPass-from_list_all, list_all-from_AllPass}
use Rattle.std.proofs.lemmas.List.Folds.{length-prefix_len}
use Rattle.std.proofs.lemmas.Bool.{eqb-true, leb-true}
use Rattle.task_parser.specs.declared.token.Kind.{Kind}
use Rattle.task_parser.specs.declared.token.Kind.TheVariants.{Num, Name, Reg, Quoted, Word, Mark}
use Rattle.task_parser.specs.declared.lexer.Piece.{Piece}
use Rattle.task_parser.specs.declared.lexer.Piece.TheVariants.{Take}
use Rattle.task_parser.specs.Pieces.{word_kind}
use Rattle.task_parser.specs.meaning.Pieces.{is_letter, is_name_byte, is_quoted_byte, begins, row_of, words, marks}
use Rattle.task_parser.specs.TokenTable.{IsToken, IsDigits, IsNameText, IsLongest}
use Rattle.task_parser.proofs.LexPieces.{Stands, space, comment, number, too_big, word, register, no_name, quoted, no_end, pair, single, no_equals, stray, front_some, name_some}
use Rattle.task_parser.proofs.LexTokens.{row_passes, prefix_longest, prefix_passes, class, class_of, class_digit, class_letter, class_dollar, class_quote, class_other, token_class}

pub begins-take : (test : ℕ → Bool) (n : ℕ) (text : List ℕ) → 1 ≤ n → begins test (take n text) ≡ begins test text
begins-take test zero text some = absurd (omega arith)
begins-take test (suc n) [] some = refl
begins-take test (suc n) (b ∷ bs) some = refl

take-one_more : (n : ℕ) (text : List ℕ) (b : ℕ) → begins (λ c. eqb c b) (drop n text) ≡ true → take (suc n) text ≡ take n text ++ b ∷ []
take-one_more zero [] b is = cc
take-one_more zero (c ∷ cs) b is = rw (eqb-true c b is) refl
take-one_more (suc n) [] b is = cc
take-one_more (suc n) (c ∷ cs) b is = ap (λ more. c ∷ more) (take-one_more n cs b is)

take-length_take : (n : ℕ) (text : List ℕ) → take (length (take n text)) text ≡ take n text
take-length_take zero text = refl
take-length_take (suc n) [] = refl
take-length_take (suc n) (b ∷ bs) = ap (λ more. b ∷ more) (take-length_take n bs)

-- a piece that is taken is a token
abbrev pub IsSound : List ℕ → Piece → Type 0
IsSound text (Take kind n) = IsToken kind (take n text)
IsSound text piece = Unit {0}

pub digits_sound : (text : List ℕ) → begins is_ascii_digit text ≡ true → IsDigits (take_while is_ascii_digit text)
digits_sound text digit = record {
  some = rw length-prefix_len (front_some is_ascii_digit text digit);
  digits = AllPass-from_list_all is_ascii_digit _ (prefix_passes is_ascii_digit text);
}

pub name_sound : (text : List ℕ) → begins is_letter text ≡ true → IsNameText (take_while is_name_byte text)
name_sound text letter = record {
  first = begins-take is_letter (prefix_len is_name_byte text) text (name_some text letter) ∙ letter;
  others = AllPass-from_list_all is_name_byte _ (prefix_passes is_name_byte text);
}

word_sound : (text : List ℕ) (row : Option ℕ) → row_of words text ≡ row → IsNameText text → IsToken (word_kind row) text
word_sound text None is name = (name, is)
word_sound text (Some row) is name = is

pub stands_sound : (b : ℕ) (bs : List ℕ) (piece : Piece) → Stands b bs piece → IsSound (b ∷ bs) piece
stands_sound b bs _ (space is) = tt
stands_sound b bs _ (comment hash) = tt
stands_sound b bs _ (number digit small) = rw length-prefix_len (digits_sound (b ∷ bs) digit, refl)
stands_sound b bs _ (too_big digit big) = tt
stands_sound b bs _ (word letter row is) = rw length-prefix_len (word_sound _ row is (name_sound (b ∷ bs) letter))
stands_sound b bs _ (register dollar letter) =
    let e : 1 + prefix_len is_name_byte bs ≡ suc (prefix_len is_name_byte bs) = omega arith in
    rw (e, eqb-true b 36 dollar) (take_while is_name_byte bs, refl, name_sound bs letter)
stands_sound b bs _ (no_name dollar no_letter) = tt
stands_sound b bs _ (quoted quote ends) =
    let n = prefix_len is_quoted_byte bs in
    let e : n + 2 ≡ suc (suc n) = omega arith in
    rw (e, eqb-true b 34 quote) (
      take n bs,
      ap (λ more. 34 ∷ more) (take-one_more n bs 34 ends),
      AllPass-from_list_all is_quoted_byte _ (prefix_passes is_quoted_byte bs),
    )
stands_sound b bs _ (no_end quote goes_on) = tt
stands_sound b bs _ (pair other mark is) = ap (λ t. row_of marks t) (take-length_take 2 (b ∷ bs)) ∙ is
stands_sound b bs _ (single other no_pair mark is) = is
stands_sound b bs _ (no_equals other no_pair no_single is) = tt
stands_sound b bs _ (stray other no_single isnt) = tt

-- a text that passes a test and one byte more are no longer than the front that passes and one byte more
ended_longest : (test : ℕ → Bool) (inside text : List ℕ) (n b : ℕ) → n ≤ length text → take n text ≡ inside ++ b ∷ []
    → list_all test inside ≡ true → n ≤ prefix_len test text + 1
ended_longest test inside [] n b le is passes = omega arith
ended_longest test inside (c ∷ cs) zero b le is passes = omega arith
ended_longest test [] (c ∷ cs) (suc n) b le is passes = omega (arith, ap length is, length-take n cs)
ended_longest test (i ∷ inside) (c ∷ cs) (suc n) b le is passes =
    let head : c ≡ i = cc in
    let tail : take n cs ≡ inside ++ b ∷ [] = cc in
    rw head (go (test i) passes (ended_longest test inside cs n b (omega arith) tail))
  where
    go : (t : Bool) → (t && list_all test inside) ≡ true → (list_all test inside ≡ true → n ≤ prefix_len test cs + 1)
        → suc n ≤ cond t (1 + prefix_len test cs) 0 + 1
    go true all more = omega (arith, more all)
    go false all more = cc

name_bytes : (text : List ℕ) (row : ℕ) → row_of words text ≡ Some row → list_all is_name_byte text ≡ true
name_bytes text row is = row_passes (list_all is_name_byte) words text row refl is

pub mark_bytes : (text : List ℕ) (row : ℕ) → row_of marks text ≡ Some row → length text ≤ 2
mark_bytes text row is = leb-true (length text) 2 (row_passes (λ mark. leb (length mark) 2) marks text row refl is)

module _ (b : ℕ) (bs : List ℕ) where
  -- a token at the front is of the class of the first byte
  of_class : (kind : Kind) (n c : ℕ) → IsToken kind (take n (b ∷ bs)) → class b ≡ c → class_of kind ≡ c
  of_class kind n c token is = sym (token_class kind n b bs token) ∙ is

  pub longest_digits : class b ≡ 2 → IsLongest (prefix_len is_ascii_digit (b ∷ bs)) (b ∷ bs)
  longest_digits is (Num value) n le token =
      prefix_longest is_ascii_digit (b ∷ bs) n le (list_all-from_AllPass is_ascii_digit (take n (b ∷ bs)) token.0.digits)
  longest_digits is kind n le token = absurd (omega (arith, of_class kind n 2 token is))

  longest_word : class b ≡ 3 → IsLongest (prefix_len is_name_byte (b ∷ bs)) (b ∷ bs)
  longest_word is Name n le token =
      prefix_longest is_name_byte (b ∷ bs) n le (list_all-from_AllPass is_name_byte (take n (b ∷ bs)) token.0.others)
  longest_word is (Word row) n le token = prefix_longest is_name_byte (b ∷ bs) n le (name_bytes (take n (b ∷ bs)) row token)
  longest_word is kind n le token = absurd (omega (arith, of_class kind n 3 token is))

  longest_register : class b ≡ 4 → IsLongest (1 + prefix_len is_name_byte bs) (b ∷ bs)
  longest_register is Reg zero le token = omega arith
  longest_register is Reg (suc n) le (name, shape, named) =
      let e : name ≡ take n bs = cc in
      omega (
        arith,
        prefix_longest is_name_byte bs n (omega arith)
            (subst (λ t. list_all is_name_byte t ≡ true) e (list_all-from_AllPass is_name_byte name named.others)),
      )
  longest_register is kind n le token = absurd (omega (arith, of_class kind n 4 token is))

  longest_quoted : class b ≡ 5 → IsLongest (prefix_len is_quoted_byte bs + 2) (b ∷ bs)
  longest_quoted is Quoted zero le token = omega arith
  longest_quoted is Quoted (suc n) le (inside, shape, passes) =
      let e : take n bs ≡ inside ++ 34 ∷ [] = cc in
      omega (arith, ended_longest is_quoted_byte inside bs n 34 (omega arith) e (list_all-from_AllPass is_quoted_byte inside passes))
  longest_quoted is kind n le token = absurd (omega (arith, of_class kind n 5 token is))

  longest_pair : class b ≡ 6 → IsLongest (length (take 2 (b ∷ bs))) (b ∷ bs)
  longest_pair is (Mark row) n le token =
      omega (arith, length-take 2 (b ∷ bs), length-take n (b ∷ bs), mark_bytes (take n (b ∷ bs)) row token)
  longest_pair is kind n le token = absurd (omega (arith, of_class kind n 6 token is))

  longest_single : class b ≡ 6 → row_of marks (take 2 (b ∷ bs)) ≡ None → IsLongest 1 (b ∷ bs)
  longest_single is no_pair (Mark row) zero le token = omega arith
  longest_single is no_pair (Mark row) (suc zero) le token = omega arith
  longest_single is no_pair (Mark row) (suc (suc zero)) le token = absurd (cc (no_pair, token))
  longest_single is no_pair (Mark row) (suc (suc (suc n))) le token =
      absurd (omega (arith, length-take (suc (suc n)) bs, mark_bytes (take (suc (suc (suc n))) (b ∷ bs)) row token))
  longest_single is no_pair kind n le token = absurd (omega (arith, of_class kind n 6 token is))

-- no token at the front is longer than the piece that is taken
abbrev pub IsLongestPiece : List ℕ → Piece → Type 0
IsLongestPiece text (Take kind n) = IsLongest n text
IsLongestPiece text piece = Unit {0}

pub stands_longest : (b : ℕ) (bs : List ℕ) (piece : Piece) → Stands b bs piece → IsLongestPiece (b ∷ bs) piece
stands_longest b bs _ (space is) = tt
stands_longest b bs _ (comment hash) = tt
stands_longest b bs _ (number digit small) = rw length-prefix_len (longest_digits b bs (class_digit b digit))
stands_longest b bs _ (too_big digit big) = tt
stands_longest b bs _ (word letter row is) = rw length-prefix_len (longest_word b bs (class_letter b letter))
stands_longest b bs _ (register dollar letter) = longest_register b bs (class_dollar b dollar)
stands_longest b bs _ (no_name dollar no_letter) = tt
stands_longest b bs _ (quoted quote ends) = longest_quoted b bs (class_quote b quote)
stands_longest b bs _ (no_end quote goes_on) = tt
stands_longest b bs _ (pair other mark is) = longest_pair b bs (class_other b other)
stands_longest b bs _ (single other no_pair mark is) = longest_single b bs (class_other b other) no_pair
stands_longest b bs _ (no_equals other no_pair no_single is) = tt
stands_longest b bs _ (stray other no_single isnt) = tt
