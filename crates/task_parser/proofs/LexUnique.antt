-- A text that splits to its end is lexed so. Bytes are a token of one kind alone. So what a splitting has at the front,
-- a gap or a longest token, is the piece that the lexer takes there; along the splitting the lexer gives its tokens.
use Rattle.std.proofs.Common.{◌≡◌, inl, inr, pos, ℕ, ◌≤◌, Bool, true, false, eqb, ltb, List, [], ◌∷◌, ◌++◌, length, take, drop, Ok, refl, ap, ◌∙◌, sym, subst, arith, append_assoc, length-append}
use Rattle.std.specs.List.{prefix_len, list_all}
use Rattle.std.proofs.Math.Seq.{take-append_seam, drop-append_seam}
use Rattle.std.proofs.lemmas.List.Sums.{list_all-from_AllPass}
use Rattle.std.proofs.lemmas.Bool.{eqb-true, false≢true}
use Rattle.std.proofs.lemmas.Bool.Decides.{nat_tests}
use Rattle.gp_base.specs.declared.limits.TheConstants.{MOST_PROGRAM_BYTES}
use Rattle.task_parser.specs.declared.token.Token.{Token}
use Rattle.task_parser.specs.declared.token.Kind.{Kind}
use Rattle.task_parser.specs.declared.token.Kind.TheVariants.{Num, Name, Reg, Quoted, Word, Mark}
use Rattle.task_parser.specs.declared.lexer.Piece.{Piece}
use Rattle.task_parser.specs.declared.lexer.Piece.TheVariants.{Skip, Take}
use Rattle.task_parser.specs.meaning.Pieces.{piece_of, is_comment_byte, is_quoted_byte, begins}
use Rattle.task_parser.specs.Pieces.{FitsIn}
use Rattle.task_parser.specs.TokenTable.{IsToken, IsInRange, IsLongest, IsGap, IsComment}
use Rattle.task_parser.specs.meaning.Lexing.{lexed_after, followed_by, token_after}
use Rattle.task_parser.specs.Splitting.{Splits, nothing, gap, token, StopsShort, BeginsTooBig, SplittingsAreLexed}
use Rattle.task_parser.proofs.LexPieces.{Stands, space, comment, number, too_big, word, register, no_name, quoted, no_end, pair, single, no_equals, stray, piece_stands, stands_fits}
use Rattle.task_parser.proofs.LexTokens.{class_of, class_some, class_space, class_hash, class_quote, first_class}
use Rattle.task_parser.proofs.LexLongest.{stands_sound, stands_longest}
use Rattle.task_parser.proofs.LexFaults.{both, no_empty_token, dollar_short, bang_short, stray_short, digits_too_big}
use Rattle.task_parser.proofs.LexSteps.{lexed_by, lexed_front}

-- bytes that pass, before one that doesn't, are the front that passes
prefix_exact : (test : ℕ → Bool) (front rest : List ℕ) → list_all test front ≡ true → begins test rest ≡ false
    → prefix_len test (front ++ rest) ≡ length front
prefix_exact test [] [] passes stops = refl
prefix_exact test [] (b ∷ bs) passes stops = rw stops refl
prefix_exact test (f ∷ front) rest passes stops =
    let passed = both (test f) (list_all test front) passes in
    rw (passed.0, prefix_exact test front rest passed.1 stops) (omega arith)

begins-append : (test : ℕ → Bool) (front rest : List ℕ) → begins test front ≡ true → begins test (front ++ rest) ≡ true
begins-append test [] rest none = cc
begins-append test (b ∷ bs) rest passes = passes

same_kind : (k l : Kind) (text : List ℕ) → class_of k ≡ class_of l → IsToken k text → IsToken l text → k ≡ l
same_kind (Num v) (Num w) text same is also = ap Num (is.1 ∙ sym also.1)
same_kind (Num v) l text same is also = absurd (omega arith)
same_kind Name Name text same is also = refl
same_kind Name (Word row) text same is also = absurd (cc (is.1, also))
same_kind Name l text same is also = absurd (omega arith)
same_kind Reg Reg text same is also = refl
same_kind Reg l text same is also = absurd (omega arith)
same_kind Quoted Quoted text same is also = refl
same_kind Quoted l text same is also = absurd (omega arith)
same_kind (Word row) (Word other) text same is also = ap Word (cc)
same_kind (Word row) Name text same is also = absurd (cc (is, also.1))
same_kind (Word row) l text same is also = absurd (omega arith)
same_kind (Mark row) (Mark other) text same is also = ap Mark (cc)
same_kind (Mark row) l text same is also = absurd (omega arith)

-- bytes are a token of one kind alone
token_unique : (k l : Kind) (text : List ℕ) → IsToken k text → IsToken l text → k ≡ l
token_unique k l [] is also = absurd (no_empty_token k is)
token_unique k l (b ∷ bs) is also = same_kind k l (b ∷ bs) (sym (first_class k b bs is) ∙ first_class l b bs also) is also

comment_piece : (skipped rest : List ℕ) → IsComment skipped rest → piece_of (skipped ++ rest) ≡ Skip (length skipped)
comment_piece [] rest is = absurd (false≢true is.hash)
comment_piece (b ∷ more) rest is =
    let hash : b ≡ 35 = eqb-true b 35 is.hash in
    let n : prefix_len is_comment_byte ((b ∷ more) ++ rest) ≡ length (b ∷ more) =
    prefix_exact is_comment_byte (b ∷ more) rest (list_all-from_AllPass is_comment_byte (b ∷ more) is.bytes) is.ends in
    rw hash (ap Skip (rw hash at n))

gap_piece : (skipped rest : List ℕ) → IsGap skipped rest → piece_of (skipped ++ rest) ≡ Skip (length skipped)
gap_piece skipped rest (inl (b, is, blank)) = rw (is, blank) refl
gap_piece skipped rest (inr is) = comment_piece skipped rest is

gap_some : (skipped rest : List ℕ) → IsGap skipped rest → 1 ≤ length skipped
gap_some [] rest (inl (b, is, blank)) = absurd (cc)
gap_some [] rest (inr is) = absurd (false≢true is.hash)
gap_some (b ∷ more) rest is = omega arith

-- a text in quotes ends with a quote, whatever follows it
quoted_ends : (kind : Kind) (b : ℕ) (more rest : List ℕ) → eqb b 34 ≡ true → IsToken kind (b ∷ more)
    → begins (λ c. eqb c 34) (drop (prefix_len is_quoted_byte (more ++ rest)) (more ++ rest)) ≡ true
quoted_ends Quoted b more rest quote (inside, shape, passes) =
    let e : more ≡ inside ++ 34 ∷ [] = cc in
    let n : prefix_len is_quoted_byte (inside ++ 34 ∷ rest) ≡ length inside =
    prefix_exact is_quoted_byte inside (34 ∷ rest) (list_all-from_AllPass is_quoted_byte inside passes) refl in
    rw (e, append_assoc inside (34 ∷ []) rest, n, drop-append_seam inside (34 ∷ rest)) refl
quoted_ends kind b more rest quote is = absurd (omega (arith, first_class kind b more is, class_quote b quote))

module _ (b : ℕ) (more rest : List ℕ) (kind : Kind) (is : IsToken kind (b ∷ more))
    (longest : IsLongest (length (b ∷ more)) ((b ∷ more) ++ rest)) where
  -- the longest token at the front is this one
  this_one : (other : Kind) (n : ℕ) → n ≤ length ((b ∷ more) ++ rest) → IsToken other (take n ((b ∷ more) ++ rest))
      → IsLongest n ((b ∷ more) ++ rest)
      → (other ≡ kind) × (n ≡ length (b ∷ more))
  this_one other n le found at_most =
      let front : take (length (b ∷ more)) ((b ∷ more) ++ rest) ≡ b ∷ more = take-append_seam (b ∷ more) rest in
      let upper : n ≤ length (b ∷ more) = longest other n le found in
      let lower : length (b ∷ more) ≤ n =
      at_most kind (length (b ∷ more)) (omega (arith, length-append (b ∷ more) rest)) (subst (λ t. IsToken kind t) (sym front) is) in
      let e : n ≡ length (b ∷ more) = omega arith in
      (token_unique other kind (b ∷ more) (subst (λ t. IsToken other t) (ap (λ k. take k ((b ∷ more) ++ rest)) e ∙ front) found) is, e)

  this_taken : (other : Kind) (n : ℕ) → Stands b (more ++ rest) (Take other n) → Take other n ≡ Take kind (length (b ∷ more))
  this_taken other n stands =
      let fits : FitsIn (length ((b ∷ more) ++ rest)) (Take other n) = stands_fits b (more ++ rest) (Take other n) stands in
      let this =
      this_one other n fits.1 (stands_sound b (more ++ rest) (Take other n) stands)
      (stands_longest b (more ++ rest) (Take other n) stands) in
      rw (this.0, this.1) refl

  not_too_big : BeginsTooBig ((b ∷ more) ++ rest) → IsInRange kind → ⊥
  not_too_big big range = go (subst IsInRange (sym (this_one (Num (pos big.value)) big.bytes big.within big.is_token big.longest).0) range)
    where
      go : IsInRange (Num (pos big.value)) → ⊥
      go (n, same, small) = let e : big.value ≡ n = cc in omega (arith, big.big)

not_short : (b : ℕ) (more rest : List ℕ) (kind : Kind) → IsToken kind (b ∷ more) → StopsShort (b ∷ []) (more ++ rest) → ⊥
not_short b [] rest kind is short = short.not_whole kind is
not_short b (c ∷ more) rest kind is short = short.cannot_go_on.0 kind more is

token_stands : (b : ℕ) (more rest : List ℕ) (kind : Kind) → IsToken kind (b ∷ more) → IsInRange kind
    → IsLongest (length (b ∷ more)) ((b ∷ more) ++ rest)
    → (piece : Piece) → Stands b (more ++ rest) piece → piece ≡ Take kind (length (b ∷ more))
token_stands b more rest kind is range longest _ (space blank) =
    absurd (omega (arith, class_some kind, first_class kind b more is, class_space b blank))
token_stands b more rest kind is range longest _ (comment hash) =
    absurd (omega (arith, class_some kind, first_class kind b more is, class_hash b hash))
token_stands b more rest kind is range longest _ (number digit small) = this_taken b more rest kind is longest _ _ (number digit small)
token_stands b more rest kind is range longest _ (too_big digit big) =
    absurd (not_too_big b more rest kind is longest (digits_too_big b (more ++ rest) digit big) range)
token_stands b more rest kind is range longest _ (word letter row found) =
    this_taken b more rest kind is longest _ _ (word letter row found)
token_stands b more rest kind is range longest _ (register dollar letter) =
    this_taken b more rest kind is longest _ _ (register dollar letter)
token_stands b more rest kind is range longest _ (no_name dollar no_letter) =
    absurd (not_short b more rest kind is (dollar_short b dollar (more ++ rest) no_letter))
token_stands b more rest kind is range longest _ (quoted quote ends) = this_taken b more rest kind is longest _ _ (quoted quote ends)
token_stands b more rest kind is range longest _ (no_end quote goes_on) =
    absurd (false≢true (sym goes_on ∙ quoted_ends kind b more rest quote is))
token_stands b more rest kind is range longest _ (pair other mark found) =
    this_taken b more rest kind is longest _ _ (pair other mark found)
token_stands b more rest kind is range longest _ (single other no_pair mark found) =
    this_taken b more rest kind is longest _ _ (single other no_pair mark found)
token_stands b more rest kind is range longest _ (no_equals other no_pair no_single bang) =
    absurd (not_short b more rest kind is (bang_short b other (more ++ rest) no_pair no_single bang))
token_stands b more rest kind is range longest _ (stray other no_single no_bang) =
    let short : StopsShort [] (b ∷ (more ++ rest)) = stray_short b other (more ++ rest) no_single no_bang in
    absurd (short.cannot_go_on.0 kind more is)

token_piece : (kind : Kind) (bytes rest : List ℕ) → IsToken kind bytes → IsInRange kind → IsLongest (length bytes) (bytes ++ rest)
    → piece_of (bytes ++ rest) ≡ Take kind (length bytes)
token_piece kind [] rest is range longest = absurd (no_empty_token kind is)
token_piece kind (b ∷ more) rest is range longest = token_stands b more rest kind is range longest _ (piece_stands b (more ++ rest))

token_some : (kind : Kind) (bytes : List ℕ) → IsToken kind bytes → 1 ≤ length bytes
token_some kind [] is = absurd (no_empty_token kind is)
token_some kind (b ∷ more) is = omega arith

lexed_gap : (before skipped rest : List ℕ) → IsGap skipped rest
    → lexed_after before 0 (skipped ++ rest) ≡ lexed_after (before ++ skipped) 0 rest
lexed_gap before skipped rest is =
    lexed_front before (skipped ++ rest) (omega (arith, gap_some skipped rest is, length-append skipped rest))
    ∙ ap (lexed_by before (skipped ++ rest)) (gap_piece skipped rest is) ∙ rw (take-append_seam, drop-append_seam) refl

lexed_token : (before : List ℕ) (kind : Kind) (bytes rest : List ℕ) → IsToken kind bytes → IsInRange kind
    → IsLongest (length bytes) (bytes ++ rest)
    → lexed_after before 0 (bytes ++ rest) ≡ followed_by (token_after before kind (length bytes)) (lexed_after (before ++ bytes) 0 rest)
lexed_token before kind bytes rest is range longest =
    lexed_front before (bytes ++ rest) (omega (arith, token_some kind bytes is, length-append bytes rest))
    ∙ ap (lexed_by before (bytes ++ rest)) (token_piece kind bytes rest is range longest) ∙ rw (take-append_seam, drop-append_seam) refl

splitting_lexed : {before text left : List ℕ} {tokens : List Token} → Splits before text tokens left → left ≡ []
    → lexed_after before 0 text ≡ Ok tokens
splitting_lexed nothing ended = rw ended refl
splitting_lexed (gap skipped is splits) ended = lexed_gap _ skipped _ is ∙ splitting_lexed splits ended
splitting_lexed (token kind bytes is range longest splits) ended =
    lexed_token _ kind bytes _ is range longest ∙ ap (followed_by (token_after _ kind (length bytes))) (splitting_lexed splits ended)

pub splittings_are_lexed : SplittingsAreLexed
splittings_are_lexed text tokens le splits =
    let short : ltb MOST_PROGRAM_BYTES (length text) ≡ false = grind (arith, nat_tests) in
    rw short (splitting_lexed splits refl)
