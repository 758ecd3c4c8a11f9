-- Which bytes are a token, a space or a comment: the table of tokens, one case a row.
use Rattle.std.specs.Prelude.{◌≡◌, ℕ, pos, ◌≤◌, ◌⊎◌, true, false, ◌==◌, List, [], ◌∷◌, ◌++◌, length, take, Some, None}
use Rattle.std.specs.List.{AllPass}
use Rattle.std.specs.Char.{is_ascii_digit}
use Rattle.task_parser.specs.declared.token.Kind.{Kind}
use Rattle.task_parser.specs.declared.token.Kind.TheVariants.{Num, Name, Reg, Quoted, Word, Mark}
use Rattle.task_parser.specs.meaning.Pieces.{words, marks, row_of, is_space, is_comment_byte, is_letter, is_name_byte, is_quoted_byte, begins, decimal, number_limit}

-- one digit or more
pub record IsDigits (text : List ℕ) : Type 0 where
  pub some : 1 ≤ length text
  pub digits : AllPass is_ascii_digit text

-- a letter or `_`, then letters, digits and `_`
pub record IsNameText (text : List ℕ) : Type 0 where
  pub first : begins is_letter text ≡ true
  pub others : AllPass is_name_byte text

-- the bytes are a token of the kind; a number may have any value here
abbrev pub IsToken : Kind → List ℕ → Type 0
IsToken (Num value) text = IsDigits text × (value ≡ pos (decimal text))
IsToken Name text = IsNameText text × (row_of words text ≡ None)
IsToken Reg text = (name : List ℕ) × (text ≡ 36 ∷ name) × IsNameText name
IsToken Quoted text = (inside : List ℕ) × (text ≡ 34 ∷ (inside ++ 34 ∷ [])) × AllPass is_quoted_byte inside
IsToken (Word number) text = row_of words text ≡ Some number
IsToken (Mark number) text = row_of marks text ≡ Some number

-- a number's value is in range
abbrev pub IsInRange : Kind → Type 0
IsInRange (Num value) = (n : ℕ) × (value ≡ pos n) × (n ≤ number_limit)
IsInRange kind = Unit {0}

-- no front of the text that has more bytes is a token
abbrev pub IsLongest : ℕ → List ℕ → Type 0
IsLongest bytes text = (kind : Kind) (n : ℕ) → n ≤ length text → IsToken kind (take n text) → n ≤ bytes

-- a comment begins with `#` and goes on to the next LF or the end of the text
pub record IsComment (comment rest : List ℕ) : Type 0 where
  pub hash : begins (λ b. b == 35) comment ≡ true
  pub bytes : AllPass is_comment_byte comment
  pub ends : begins is_comment_byte rest ≡ false

-- a space or a comment
abbrev pub IsGap : List ℕ → List ℕ → Type 0
IsGap gap rest = ((b : ℕ) × (gap ≡ b ∷ []) × (is_space b ≡ true)) ⊎ IsComment gap rest
