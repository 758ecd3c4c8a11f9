-- What begins a token, and that the piece at the front of a text is its longest token. Bytes fall into classes by what
-- they may begin, and each token is of the class of its first byte (first_class), so that at the front of a text only
-- tokens of one class can stand. The front of a text that passes a test of bytes is the longest that does.
use Rattle.std.proofs.Common.{◌≡◌, ℕ, zero, suc, ◌+◌, ◌≤◌, Bool, true, false, cond, not, ◌||◌, ◌&&◌, eqb, List, [], ◌∷◌, length, take, drop, Some, refl, subst, arith, get_or}
use Rattle.std.specs.Prelude.{if◌then◌else◌, bytes_eq}
use Rattle.std.specs.List.{prefix_len, list_all}
use Rattle.std.specs.Char.{is_ascii_digit}
use Rattle.std.proofs.lemmas.List.Sums.{AllPass-from_list_all}
use Rattle.std.proofs.lemmas.List.Quantifiers.{position-Some}
use Rattle.std.proofs.lemmas.Slice.Eq.{bytes_eq-Decides}
use Rattle.std.proofs.lemmas.Bool.{false≢true, eqb-true}
use Rattle.std.proofs.lemmas.Bool.Decides.{nat_tests}
use Rattle.task_parser.specs.declared.token.Kind.{Kind}
use Rattle.task_parser.specs.declared.token.Kind.TheVariants.{Num, Name, Reg, Quoted, Word, Mark}
use Rattle.task_parser.specs.meaning.Pieces.{is_space, is_letter, begins, row_of, words, marks}
use Rattle.task_parser.specs.TokenTable.{IsToken, IsDigits}
use Rattle.task_parser.proofs.LexPieces.{IsOther}

-- a text in a table passes a test that each row passes
pub row_passes : (test : List ℕ → Bool) (table : List (List ℕ)) (text : List ℕ) (row : ℕ) → list_all test table ≡ true
    → row_of table text ≡ Some row → test text ≡ true
row_passes test table text row all is =
    let found = position-Some (λ r. bytes_eq r text) table row [] is in
    subst (λ t. test t ≡ true) ((bytes_eq-Decides (get_or table row []) text).0 found.1)
    (AllPass-from_list_all test table all row [] found.0)

-- the front that passes a test is the longest that does
pub prefix_longest : (test : ℕ → Bool) (text : List ℕ) (n : ℕ) → n ≤ length text → list_all test (take n text) ≡ true
    → n ≤ prefix_len test text
prefix_longest test [] n le passes = omega arith
prefix_longest test (b ∷ bs) zero le passes = omega arith
prefix_longest test (b ∷ bs) (suc n) le passes = go (test b) passes (prefix_longest test bs n (omega arith))
  where
    go : (t : Bool) → (t && list_all test (take n bs)) ≡ true → (list_all test (take n bs) ≡ true → n ≤ prefix_len test bs)
        → suc n ≤ cond t (1 + prefix_len test bs) 0
    go true all more = omega (arith, more all)
    go false all more = cc

pub prefix_passes : (test : ℕ → Bool) (text : List ℕ) → list_all test (take (prefix_len test text) text) ≡ true
prefix_passes test [] = refl
prefix_passes test (b ∷ bs) = go (test b) refl (prefix_passes test bs)
  where
    go : (t : Bool) → test b ≡ t → list_all test (take (prefix_len test bs) bs) ≡ true
        → list_all test (take (cond t (1 + prefix_len test bs) 0) (b ∷ bs)) ≡ true
    go true is all = let e : 1 + prefix_len test bs ≡ suc (prefix_len test bs) = omega arith in rw (e, is) all
    go false is all = refl

pub prefix_stops : (test : ℕ → Bool) (text : List ℕ) → begins test (drop (prefix_len test text) text) ≡ false
prefix_stops test [] = refl
prefix_stops test (b ∷ bs) = go (test b) refl (prefix_stops test bs)
  where
    go : (t : Bool) → test b ≡ t → begins test (drop (prefix_len test bs) bs) ≡ false
        → begins test (drop (cond t (1 + prefix_len test bs) 0) (b ∷ bs)) ≡ false
    go true is stops = let e : 1 + prefix_len test bs ≡ suc (prefix_len test bs) = omega arith in rw e stops
    go false is stops = is

-- a byte with which a mark begins
abbrev pub is_other : ℕ → Bool
is_other b = not (is_space b || eqb b 35 || is_ascii_digit b || is_letter b || eqb b 36 || eqb b 34)

-- the bytes with which a token of the kind begins
abbrev pub opens : Kind → ℕ → Bool
opens (Num value) b = is_ascii_digit b
opens Name b = is_letter b
opens Reg b = eqb b 36
opens Quoted b = eqb b 34
opens (Word number) b = is_letter b
opens (Mark number) b = is_other b

-- what a byte may begin: a space, a comment, a number, a word, a data variable, a text in quotes, something else
abbrev pub class : ℕ → ℕ
class b =
    if is_space b then 0 else if eqb b 35 then 1 else if is_ascii_digit b then 2 else if is_letter b then 3 else if eqb b 36 then 4 else
    if eqb b 34 then 5 else 6

abbrev pub class_of : Kind → ℕ
class_of (Num value) = 2
class_of Name = 3
class_of Reg = 4
class_of Quoted = 5
class_of (Word number) = 3
class_of (Mark number) = 6

-- no token is of the class of spaces or of comments
pub class_some : (kind : Kind) → 2 ≤ class_of kind
class_some (Num value) = omega arith
class_some Name = omega arith
class_some Reg = omega arith
class_some Quoted = omega arith
class_some (Word row) = omega arith
class_some (Mark row) = omega arith

pub class_space : (b : ℕ) → is_space b ≡ true → class b ≡ 0
class_space b is = rw is refl

pub class_hash : (b : ℕ) → eqb b 35 ≡ true → class b ≡ 1
class_hash b is = rw (eqb-true b 35 is) refl

digit_no_space : (b : ℕ) → is_ascii_digit b ≡ true → is_space b ≡ false
digit_no_space b is = grind (arith, nat_tests)

digit_no_hash : (b : ℕ) → is_ascii_digit b ≡ true → eqb b 35 ≡ false
digit_no_hash b is = grind (arith, nat_tests)

letter_no_space : (b : ℕ) → is_letter b ≡ true → is_space b ≡ false
letter_no_space b is = grind (arith, nat_tests)

letter_no_hash : (b : ℕ) → is_letter b ≡ true → eqb b 35 ≡ false
letter_no_hash b is = grind (arith, nat_tests)

letter_no_digit : (b : ℕ) → is_letter b ≡ true → is_ascii_digit b ≡ false
letter_no_digit b is = grind (arith, nat_tests)

pub class_digit : (b : ℕ) → is_ascii_digit b ≡ true → class b ≡ 2
class_digit b is = rw (is, digit_no_space b is, digit_no_hash b is) refl

pub class_letter : (b : ℕ) → is_letter b ≡ true → class b ≡ 3
class_letter b is = rw (is, letter_no_space b is, letter_no_hash b is, letter_no_digit b is) refl

pub class_dollar : (b : ℕ) → eqb b 36 ≡ true → class b ≡ 4
class_dollar b is = rw (eqb-true b 36 is) refl

pub class_quote : (b : ℕ) → eqb b 34 ≡ true → class b ≡ 5
class_quote b is = rw (eqb-true b 34 is) refl

pub class_other : (b : ℕ) → IsOther b → class b ≡ 6
class_other b is = rw (is.no_space, is.no_hash, is.no_digit, is.no_letter, is.no_dollar, is.no_quote) refl

-- each token begins with a byte of its class
table_name : (text : List ℕ) (row : ℕ) → row_of words text ≡ Some row → begins is_letter text ≡ true
table_name text row is = row_passes (begins is_letter) words text row refl is

table_mark : (text : List ℕ) (row : ℕ) → row_of marks text ≡ Some row → begins is_other text ≡ true
table_mark text row is = row_passes (begins is_other) marks text row refl is

pub other_byte : (b : ℕ) → is_other b ≡ true → IsOther b
other_byte b is = record {
  no_space = grind (arith, nat_tests);
  no_hash = grind (arith, nat_tests);
  no_digit = grind (arith, nat_tests);
  no_letter = grind (arith, nat_tests);
  no_dollar = grind (arith, nat_tests);
  no_quote = grind (arith, nat_tests);
}

digits_begin : (text : List ℕ) → IsDigits text → begins is_ascii_digit text ≡ true
digits_begin [] is = absurd (omega (arith, is.some))
digits_begin (b ∷ bs) is = is.digits 0 0 (omega arith)

pub token_begins : (kind : Kind) (text : List ℕ) → IsToken kind text → begins (opens kind) text ≡ true
token_begins (Num value) text is = digits_begin text is.0
token_begins Name text is = is.0.first
token_begins Reg text (name, shape, is) = rw shape refl
token_begins Quoted text (inside, shape, is) = rw shape refl
token_begins (Word number) text is = table_name text number is
token_begins (Mark number) text is = table_mark text number is

pub opens_class : (kind : Kind) (b : ℕ) → opens kind b ≡ true → class b ≡ class_of kind
opens_class (Num value) b is = class_digit b is
opens_class Name b is = class_letter b is
opens_class Reg b is = class_dollar b is
opens_class Quoted b is = class_quote b is
opens_class (Word number) b is = class_letter b is
opens_class (Mark number) b is = class_other b (other_byte b is)

-- a token is of the class of its first byte
pub first_class : (kind : Kind) (b : ℕ) (more : List ℕ) → IsToken kind (b ∷ more) → class b ≡ class_of kind
first_class kind b more is = opens_class kind b (token_begins kind (b ∷ more) is)

-- a token at the front of a text is of the class of the text's first byte
pub token_class : (kind : Kind) (n b : ℕ) (bs : List ℕ) → IsToken kind (take n (b ∷ bs)) → class b ≡ class_of kind
token_class kind zero b bs is = absurd (false≢true (token_begins kind [] is))
token_class kind (suc n) b bs is = first_class kind b (take n bs) is
