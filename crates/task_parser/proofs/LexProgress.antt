-- How far a lexing has come, and what each piece adds to it.
use Rattle.std.proofs.Common.{◌≡◌, ℕ, ◌+◌, ◌-◌, ◌≤◌, ◌<◌, eqb, cond, List, [], ◌∷◌, ◌++◌, length, take, drop, count_by, Result, Ok, Err, refl, subst, arith, append_assoc, length-drop}
use Rattle.std.specs.Prelude.{slice_range}
use Rattle.std.proofs.lemmas.List.{append-nil}
use Rattle.std.proofs.lemmas.List.Elements.{All-push}
use Rattle.std.proofs.lemmas.List.Sums.{sum_by-append}
use Rattle.std.proofs.Math.Seq.{take-add, drop-length}
use Rattle.task_parser.specs.declared.token.Token.{Token}
use Rattle.task_parser.specs.declared.token.Kind.{Kind}
use Rattle.task_parser.specs.declared.fault.LexFault.{LexFault}
use Rattle.task_parser.specs.declared.fault.LexFault.TheVariants.{BadByte, NumberTooBig}
use Rattle.task_parser.specs.declared.lexer.Piece.{Piece}
use Rattle.task_parser.specs.declared.lexer.Piece.TheVariants.{Skip, Take, TooBig, Bad}
use Rattle.task_parser.specs.meaning.Pieces.{piece_of}
use Rattle.task_parser.specs.Pieces.{FitsIn}
use Rattle.task_parser.specs.meaning.Lexing.{lexed_after, followed_by, line_after}
use Rattle.task_parser.specs.Lexing.{IsTokenOf, AreTokensOf}
use Rattle.task_parser.proofs.LexPieces.{piece_fits}
use Rattle.task_parser.proofs.LexSteps.{lexed_at, lexed_from, lexed_step, length_front}

-- tokens before a lexing
abbrev pub with_tokens : List Token → Result (List Token) LexFault → Result (List Token) LexFault
with_tokens tokens (Ok more) = Ok (tokens ++ more)
with_tokens tokens (Err fault) = Err fault

-- these tokens and the lexing from this place on are the lexing of the text, and this is the place's line
pub record Progress (text : List ℕ) (tokens : List Token) (from line : ℕ) : Type 0 where
  pub so_far : with_tokens tokens (lexed_at text from) ≡ lexed_after [] 0 text
  pub line_is : line ≡ line_after (take from text)
  pub within : from ≤ length text
  pub spans : AreTokensOf text tokens

with_none : (lexing : Result (List Token) LexFault) → with_tokens [] lexing ≡ lexing
with_none (Ok tokens) = refl
with_none (Err fault) = refl

with_one_more : (tokens : List Token) (token : Token) (lexing : Result (List Token) LexFault)
    → with_tokens tokens (followed_by token lexing) ≡ with_tokens (tokens ++ token ∷ []) lexing
with_one_more tokens token (Ok more) = rw append_assoc refl
with_one_more tokens token (Err fault) = refl

pub begun : (text : List ℕ) → Progress text [] 0 1
begun text =
    record { so_far = with_none (lexed_after [] 0 text); line_is = refl; within = omega arith; spans = (λ k d lt. absurd (omega arith)) }

line_more : (text : List ℕ) (from bytes : ℕ)
    → line_after (take from text) + count_by (λ b. eqb b 10) (slice_range text from (from + bytes))
    ≡ line_after (take (from + bytes) text)
line_more text from bytes =
    let e : from + bytes - from ≡ bytes = omega arith in
    rw (e, take-add from bytes text, sum_by-append (λ b. cond (eqb b 10) 1 0) (take from text) (take bytes (drop from text))) (omega arith)

module _ (text : List ℕ) (tokens : List Token) (from line : ℕ) (progress : Progress text tokens from line) (more : from < length text) where
  by_piece : (piece : Piece) → piece ≡ piece_of (drop from text) → with_tokens tokens (lexed_from text from piece) ≡ lexed_after [] 0 text
  by_piece piece is = rw (is, ← lexed_step text from more) progress.so_far

  pub fits : (piece : Piece) → piece ≡ piece_of (drop from text) → FitsIn (length text - from) piece
  fits piece is = rw (is, ← length-drop from text) (piece_fits (drop from text) (omega (arith, length-drop from text)))

  new_line : (bytes : ℕ) → line + count_by (λ b. eqb b 10) (slice_range text from (from + bytes)) ≡ line_after (take (from + bytes) text)
  new_line bytes = rw progress.line_is (line_more text from bytes)

  pub skipped : (bytes : ℕ) → Skip bytes ≡ piece_of (drop from text)
      → Progress text tokens (from + bytes) (line + count_by (λ b. eqb b 10) (slice_range text from (from + bytes)))
  skipped bytes is = record {
    so_far = by_piece (Skip bytes) is;
    line_is = new_line bytes;
    within = (let fit : FitsIn (length text - from) (Skip bytes) = fits (Skip bytes) is in omega arith);
    spans = progress.spans;
  }

  pub taken : (kind : Kind) (bytes : ℕ) → Take kind bytes ≡ piece_of (drop from text)
      → Progress text (tokens ++ record { kind = kind; from = from; to = from + bytes; line = line } ∷ []) (from + bytes)
      (line + count_by (λ b. eqb b 10) (slice_range text from (from + bytes)))
  taken kind bytes is = record {
    so_far =
        rw (← with_one_more, progress.line_is) (rw (length_front text from progress.within) at (by_piece (Take kind bytes) is));
    line_is = new_line bytes;
    within = (let fit : FitsIn (length text - from) (Take kind bytes) = fits (Take kind bytes) is in omega arith);
    spans =
        (let fit : FitsIn (length text - from) (Take kind bytes) = fits (Take kind bytes) is in
        All-push (λ token. IsTokenOf text token) tokens _ progress.spans (record { whole = omega arith; within = omega arith }));
  }

  pub too_big_at : TooBig ≡ piece_of (drop from text) → Err (NumberTooBig from) ≡ lexed_after [] 0 text
  too_big_at is = by_piece TooBig is

  pub bad_at : (bytes : ℕ) → Bad bytes ≡ piece_of (drop from text) → Err (BadByte (from + bytes)) ≡ lexed_after [] 0 text
  bad_at bytes is = by_piece (Bad bytes) is

pub finished : (text : List ℕ) (tokens : List Token) (from line : ℕ) → Progress text tokens from line → length text ≤ from
    → Ok tokens ≡ lexed_after [] 0 text
finished text tokens from line progress over =
    let e : from ≡ length text = omega (arith, progress.within) in
    let ended : with_tokens tokens (lexed_at text (length text)) ≡ lexed_after [] 0 text =
    subst (λ n. with_tokens tokens (lexed_at text n) ≡ lexed_after [] 0 text) e progress.so_far in
    rw (drop-length, append-nil) at ended
