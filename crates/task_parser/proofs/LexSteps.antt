-- A lexing goes from piece to piece.
use Rattle.std.proofs.Common.{◌≡◌, ℕ, zero, suc, ◌+◌, ◌-◌, ◌≤◌, ◌<◌, List, [], ◌∷◌, ◌++◌, length, take, drop, Result, Err, refl, ap, ◌∙◌, arith, append_assoc, length-take, length-drop}
use Rattle.std.proofs.lemmas.List.{append-nil, drop-drop}
use Rattle.std.proofs.Math.Seq.{take-add}
use Rattle.task_parser.specs.declared.token.Token.{Token}
use Rattle.task_parser.specs.declared.token.Kind.{Kind}
use Rattle.task_parser.specs.declared.token.Kind.TheVariants.{Num, Name, Reg, Quoted, Word, Mark}
use Rattle.task_parser.specs.declared.fault.LexFault.{LexFault}
use Rattle.task_parser.specs.declared.fault.LexFault.TheVariants.{BadByte, NumberTooBig}
use Rattle.task_parser.specs.declared.lexer.Piece.{Piece}
use Rattle.task_parser.specs.declared.lexer.Piece.TheVariants.{Skip, Take, TooBig, Bad}
use Rattle.task_parser.specs.meaning.Pieces.{piece_of}
use Rattle.task_parser.specs.Pieces.{least_length, FitsIn}
use Rattle.task_parser.specs.meaning.Lexing.{lexed_after, followed_by, token_after}
use Rattle.task_parser.proofs.LexPieces.{piece_fits}

-- the rest of a piece is passed over
pub lexed_after_piece : (before : List ℕ) (inside : ℕ) (rest : List ℕ) → inside ≤ length rest
    → lexed_after before inside rest ≡ lexed_after (before ++ take inside rest) 0 (drop inside rest)
lexed_after_piece before zero rest le = rw append-nil refl
lexed_after_piece before (suc inside) [] le = absurd (omega arith)
lexed_after_piece before (suc inside) (b ∷ bs) le =
    lexed_after_piece (before ++ b ∷ []) inside bs (omega arith) ∙ rw append_assoc refl

-- a lexing by the piece that stands at the front
abbrev pub lexed_by : List ℕ → List ℕ → Piece → Result (List Token) LexFault
lexed_by before rest (Skip bytes) = lexed_after (before ++ take bytes rest) 0 (drop bytes rest)
lexed_by before rest (Take kind bytes) =
    followed_by (token_after before kind bytes) (lexed_after (before ++ take bytes rest) 0 (drop bytes rest))
lexed_by before rest TooBig = Err (NumberTooBig (length before))
lexed_by before rest (Bad bytes) = Err (BadByte (length before + bytes))

passed_over : (before : List ℕ) (b : ℕ) (bs : List ℕ) (bytes : ℕ) → 1 ≤ bytes → bytes ≤ length (b ∷ bs)
    → lexed_after (before ++ b ∷ []) (bytes - 1) bs ≡ lexed_after (before ++ take bytes (b ∷ bs)) 0 (drop bytes (b ∷ bs))
passed_over before b bs zero some within = absurd (omega arith)
passed_over before b bs (suc more) some within =
    let e : suc more - 1 ≡ more = omega arith in
    rw e (lexed_after_piece (before ++ b ∷ []) more bs (omega arith) ∙ rw append_assoc refl)

pub least_some : (kind : Kind) (bytes : ℕ) → least_length kind ≤ bytes → 1 ≤ bytes
least_some (Num n) bytes le = le
least_some Name bytes le = le
least_some Reg bytes le = omega arith
least_some Quoted bytes le = omega arith
least_some (Word number) bytes le = le
least_some (Mark number) bytes le = le

by_front : (before : List ℕ) (b : ℕ) (bs : List ℕ) (piece : Piece) → FitsIn (length (b ∷ bs)) piece →
    (elim piece [
      | Skip bytes ↦ lexed_after (before ++ b ∷ []) (bytes - 1) bs
      | Take kind bytes ↦ followed_by (token_after before kind bytes) (lexed_after (before ++ b ∷ []) (bytes - 1) bs)
      | TooBig ↦ Err (NumberTooBig (length before))
      | Bad bytes ↦ Err (BadByte (length before + bytes))
    ]) ≡ lexed_by before (b ∷ bs) piece
by_front before b bs (Skip bytes) fits = passed_over before b bs bytes fits.0 fits.1
by_front before b bs (Take kind bytes) fits =
    ap (followed_by (token_after before kind bytes)) (passed_over before b bs bytes (least_some kind bytes fits.0) fits.1)
by_front before b bs TooBig fits = refl
by_front before b bs (Bad bytes) fits = refl

pub lexed_front : (before rest : List ℕ) → 0 < length rest → lexed_after before 0 rest ≡ lexed_by before rest (piece_of rest)
lexed_front before [] some = absurd (omega arith)
lexed_front before (b ∷ bs) some = by_front before b bs (piece_of (b ∷ bs)) (piece_fits (b ∷ bs) some)

-- the lexing from a place of the text on
abbrev pub lexed_at : List ℕ → ℕ → Result (List Token) LexFault
lexed_at text from = lexed_after (take from text) 0 (drop from text)

-- it by the piece at the place
abbrev pub lexed_from : List ℕ → ℕ → Piece → Result (List Token) LexFault
lexed_from text from (Skip bytes) = lexed_at text (from + bytes)
lexed_from text from (Take kind bytes) = followed_by (token_after (take from text) kind bytes) (lexed_at text (from + bytes))
lexed_from text from TooBig = Err (NumberTooBig from)
lexed_from text from (Bad bytes) = Err (BadByte (from + bytes))

pub length_front : (text : List ℕ) (from : ℕ) → from ≤ length text → length (take from text) ≡ from
length_front text from le = omega (arith, length-take from text)

lexed_by_from : (text : List ℕ) (from : ℕ) (piece : Piece) → from ≤ length text
    → lexed_by (take from text) (drop from text) piece ≡ lexed_from text from piece
lexed_by_from text from (Skip bytes) le = rw (take-add, ← drop-drop) refl
lexed_by_from text from (Take kind bytes) le = rw (take-add, ← drop-drop) refl
lexed_by_from text from TooBig le = rw (length_front text from le) refl
lexed_by_from text from (Bad bytes) le = rw (length_front text from le) refl

pub lexed_step : (text : List ℕ) (from : ℕ) → from < length text → lexed_at text from ≡ lexed_from text from (piece_of (drop from text))
lexed_step text from lt =
    lexed_front (take from text) (drop from text) (omega (arith, length-drop from text))
    ∙ lexed_by_from text from (piece_of (drop from text)) (omega arith)
