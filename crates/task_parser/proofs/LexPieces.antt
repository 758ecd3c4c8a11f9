-- What a piece is, from the byte at its front.
use Rattle.std.proofs.Common.{leb, pos, ◌≡◌, ℕ, ◌+◌, ◌≤◌, ◌<◌, Bool, true, false, eqb, List, [], ◌∷◌, length, take, drop, Option, Some, None, refl, arith, length-take, length-drop}
use Rattle.std.specs.Prelude.{take_while, if◌then◌else◌}
use Rattle.std.specs.List.{prefix_len}
use Rattle.std.specs.Char.{is_ascii_digit}
use Rattle.std.proofs.lemmas.List.Sums.{prefix_len-le-length}
use Rattle.std.proofs.lemmas.List.Folds.{length-prefix_len}
use Rattle.std.proofs.lemmas.Bool.Decides.{nat_tests}
use Rattle.task_parser.specs.declared.token.Kind.TheVariants.{Num, Reg, Quoted, Mark}
use Rattle.task_parser.specs.declared.lexer.Piece.{Piece}
use Rattle.task_parser.specs.declared.lexer.Piece.TheVariants.{Skip, Take, TooBig, Bad}
use Rattle.task_parser.specs.meaning.Pieces.{decimal, number_limit, piece_of, is_space, is_comment_byte, is_letter, is_name_byte, is_quoted_byte, begins, mark_piece, row_of, words, marks}
use Rattle.task_parser.specs.Pieces.{word_kind, FitsIn}

-- a byte that begins neither a space or a comment, nor a token that is no mark
pub record IsOther (b : ℕ) : Type 0 where
  pub no_space : is_space b ≡ false
  pub no_hash : eqb b 35 ≡ false
  pub no_digit : is_ascii_digit b ≡ false
  pub no_letter : is_letter b ≡ false
  pub no_dollar : eqb b 36 ≡ false
  pub no_quote : eqb b 34 ≡ false

-- the piece that stands at the front, by what made it so
pub data Stands (b : ℕ) (bs : List ℕ) : Piece → Type 0 where
  space : is_space b ≡ true → Stands b bs (Skip 1)
  comment : eqb b 35 ≡ true → Stands b bs (Skip (prefix_len is_comment_byte (b ∷ bs)))
  number : is_ascii_digit b ≡ true → leb (decimal (take_while is_ascii_digit (b ∷ bs))) number_limit ≡ true
      → Stands b bs (Take (Num (pos (decimal (take_while is_ascii_digit (b ∷ bs))))) (length (take_while is_ascii_digit (b ∷ bs))))
  too_big : is_ascii_digit b ≡ true → leb (decimal (take_while is_ascii_digit (b ∷ bs))) number_limit ≡ false → Stands b bs TooBig
  word : is_letter b ≡ true → (row : Option ℕ) → row_of words (take_while is_name_byte (b ∷ bs)) ≡ row
      → Stands b bs (Take (word_kind row) (length (take_while is_name_byte (b ∷ bs))))
  register : eqb b 36 ≡ true → begins is_letter bs ≡ true → Stands b bs (Take Reg (1 + prefix_len is_name_byte bs))
  no_name : eqb b 36 ≡ true → begins is_letter bs ≡ false → Stands b bs (Bad 1)
  quoted : eqb b 34 ≡ true → begins (λ c. eqb c 34) (drop (prefix_len is_quoted_byte bs) bs) ≡ true
      → Stands b bs (Take Quoted (prefix_len is_quoted_byte bs + 2))
  no_end : eqb b 34 ≡ true → begins (λ c. eqb c 34) (drop (prefix_len is_quoted_byte bs) bs) ≡ false
      → Stands b bs (Bad (prefix_len is_quoted_byte bs + 1))
  pair : IsOther b → (mark : ℕ) → row_of marks (take 2 (b ∷ bs)) ≡ Some mark → Stands b bs (Take (Mark mark) (length (take 2 (b ∷ bs))))
  single : IsOther b → row_of marks (take 2 (b ∷ bs)) ≡ None → (mark : ℕ) → row_of marks (b ∷ []) ≡ Some mark
      → Stands b bs (Take (Mark mark) 1)
  no_equals : IsOther b → row_of marks (take 2 (b ∷ bs)) ≡ None → row_of marks (b ∷ []) ≡ None → eqb b 33 ≡ true → Stands b bs (Bad 1)
  stray : IsOther b → row_of marks (b ∷ []) ≡ None → eqb b 33 ≡ false → Stands b bs (Bad 0)

-- what holds of both choices holds of the choice
either_way : (P : Piece → Type 0) (b : Bool) (x y : Piece) → (b ≡ true → P x) → (b ≡ false → P y) → P (if b then x else y)
either_way P true x y is isnt = is refl
either_way P false x y is isnt = isnt refl

module _ (b : ℕ) (bs : List ℕ) where
  mark_stands : IsOther b → (double single : Option ℕ) → row_of marks (take 2 (b ∷ bs)) ≡ double → row_of marks (b ∷ []) ≡ single
      → Stands b bs (mark_piece b (take 2 (b ∷ bs)) double single)
  mark_stands other (Some mark) one two_is one_is = pair other mark two_is
  mark_stands other None (Some mark) two_is one_is = single other two_is mark one_is
  mark_stands other None None two_is one_is =
      either_way (Stands b bs) (eqb b 33) _ _ (λ bang. no_equals other two_is one_is bang) (λ other_byte. stray other one_is other_byte)

  pub piece_stands : Stands b bs (piece_of (b ∷ bs))
  piece_stands =
      let S : Piece → Type 0 = Stands b bs in
      either_way S (is_space b) _ _ space
      (λ no_space. either_way S (eqb b 35) _ _ comment
      (λ no_hash. either_way S (is_ascii_digit b) _ _ (λ digit. either_way S _ _ _ (number digit) (too_big digit))
      (λ no_digit. either_way S (is_letter b) _ _ (λ letter. word letter _ refl)
      (λ no_letter. either_way S (eqb b 36) _ _ (λ dollar. either_way S _ _ _ (register dollar) (no_name dollar))
      (λ no_dollar. either_way S (eqb b 34) _ _ (λ quote. either_way S _ _ _ (quoted quote) (no_end quote))
      (λ no_quote. mark_stands
      (record {
        no_space = no_space;
        no_hash = no_hash;
        no_digit = no_digit;
        no_letter = no_letter;
        no_dollar = no_dollar;
        no_quote = no_quote;
      })
      _ _ refl refl))))))

pub begins_some : (test : ℕ → Bool) (text : List ℕ) → begins test text ≡ true → 1 ≤ length text
begins_some test [] none = cc
begins_some test (b ∷ bs) passes = omega arith

pub letter_is_name_byte : (b : ℕ) → is_letter b ≡ true → is_name_byte b ≡ true
letter_is_name_byte b letter = rw letter refl

pub hash_is_comment_byte : (b : ℕ) → eqb b 35 ≡ true → is_comment_byte b ≡ true
hash_is_comment_byte b hash = grind (arith, nat_tests)

-- a front whose first byte passes has at least that byte
pub front_some : (test : ℕ → Bool) (text : List ℕ) → begins test text ≡ true → 1 ≤ prefix_len test text
front_some test [] none = cc
front_some test (b ∷ bs) passes = rw passes (omega arith)

pub name_some : (text : List ℕ) → begins is_letter text ≡ true → 1 ≤ prefix_len is_name_byte text
name_some [] none = cc
name_some (b ∷ bs) letter = front_some is_name_byte (b ∷ bs) (letter_is_name_byte b letter)

front_fits : (test : ℕ → Bool) (text : List ℕ) → 1 ≤ prefix_len test text
    → (1 ≤ length (take_while test text)) × (length (take_while test text) ≤ length text)
front_fits test text some = rw length-prefix_len (some, prefix_len-le-length test text)

word_fits : (row : Option ℕ) (bytes most : ℕ) → (1 ≤ bytes) × (bytes ≤ most) → FitsIn most (Take (word_kind row) bytes)
word_fits None bytes most fits = fits
word_fits (Some row) bytes most fits = fits

pub stands_fits : (b : ℕ) (bs : List ℕ) (piece : Piece) → Stands b bs piece → FitsIn (length (b ∷ bs)) piece
stands_fits b bs _ (space is) = (omega arith, omega arith)
stands_fits b bs _ (comment hash) =
    (front_some is_comment_byte (b ∷ bs) (hash_is_comment_byte b hash), prefix_len-le-length is_comment_byte (b ∷ bs))
stands_fits b bs _ (number digit small) = front_fits is_ascii_digit (b ∷ bs) (front_some is_ascii_digit (b ∷ bs) digit)
stands_fits b bs _ (too_big digit big) = tt
stands_fits b bs _ (word letter row is) = word_fits row _ _ (front_fits is_name_byte (b ∷ bs) (name_some (b ∷ bs) letter))
stands_fits b bs _ (register dollar letter) = (omega (arith, name_some bs letter), omega (arith, prefix_len-le-length is_name_byte bs))
stands_fits b bs _ (no_name dollar no_letter) = omega arith
stands_fits b bs _ (quoted quote ends) = (
  omega arith,
  omega (
    arith,
    begins_some (λ c. eqb c 34) (drop (prefix_len is_quoted_byte bs) bs) ends,
    length-drop (prefix_len is_quoted_byte bs) bs,
  ),
)
stands_fits b bs _ (no_end quote goes_on) = omega (arith, prefix_len-le-length is_quoted_byte bs)
stands_fits b bs _ (pair other mark is) = (omega (arith, length-take 2 (b ∷ bs)), omega (arith, length-take 2 (b ∷ bs)))
stands_fits b bs _ (single other no_pair mark is) = (omega arith, omega arith)
stands_fits b bs _ (no_equals other no_pair no_single is) = omega arith
stands_fits b bs _ (stray other no_single isnt) = omega arith

-- each piece has at least the bytes of its kind, and lies within the text
pub piece_fits : (text : List ℕ) → 0 < length text → FitsIn (length text) (piece_of text)
piece_fits [] some = absurd (omega arith)
piece_fits (b ∷ bs) some = stands_fits b bs _ (piece_stands b bs)
