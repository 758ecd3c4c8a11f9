-- A lexing is a splitting of its text.
use Rattle.std.proofs.Common.{◌≡◌, inl, inr, ℕ, zero, suc, ◌+◌, ◌≤◌, Bool, Option, ltb, true, false, eqb, List, [], ◌∷◌, ◌++◌, length, take, drop, Some, None, Result, Ok, Err, refl, ap, ◌∙◌, sym, subst, arith, append_assoc, length-take, length-drop}
use Rattle.std.specs.List.{prefix_len}
use Rattle.std.proofs.lemmas.List.{take-append-drop}
use Rattle.std.proofs.lemmas.List.Sums.{AllPass-from_list_all, prefix_len-le-length}
use Rattle.std.specs.Prelude.{if◌then◌else◌}
use Rattle.std.proofs.lemmas.Bool.Decides.{nat_tests}
use Rattle.std.proofs.lemmas.Bool.{leb-true}
use Rattle.gp_base.specs.declared.limits.TheConstants.{MOST_PROGRAM_BYTES}
use Rattle.task_parser.specs.declared.token.Token.{Token}
use Rattle.task_parser.specs.declared.token.Kind.{Kind}
use Rattle.task_parser.specs.declared.fault.LexFault.{LexFault}
use Rattle.task_parser.specs.declared.fault.LexFault.TheVariants.{TooLong}
use Rattle.task_parser.specs.declared.lexer.Piece.{Piece}
use Rattle.task_parser.specs.declared.lexer.Piece.TheVariants.{Skip, Take, TooBig, Bad}
use Rattle.task_parser.specs.meaning.Pieces.{piece_of, is_comment_byte, is_quoted_byte}
use Rattle.task_parser.specs.Pieces.{word_kind, FitsIn}
use Rattle.task_parser.specs.TokenTable.{IsToken, IsInRange, IsLongest, IsGap, IsComment}
use Rattle.task_parser.specs.meaning.Lexing.{lexed_after, followed_by, token_after}
use Rattle.task_parser.specs.Splitting.{Splits, nothing, gap, token, StopsShort, BeginsTooBig, StopsAt, LexingsSplit, FaultsStop}
use Rattle.task_parser.proofs.LexPieces.{Stands, space, comment, number, too_big, word, register, no_name, quoted, no_end, pair, single, no_equals, stray, piece_stands, stands_fits, piece_fits, front_some, hash_is_comment_byte}
use Rattle.task_parser.proofs.LexTokens.{prefix_passes, prefix_stops}
use Rattle.task_parser.proofs.LexLongest.{begins-take, stands_sound, stands_longest}
use Rattle.task_parser.proofs.LexFaults.{dollar_short, quote_short, bang_short, stray_short, digits_too_big}
use Rattle.task_parser.proofs.LexSteps.{lexed_by, lexed_front, least_some}

-- what the piece at the front says of the text
pub data Explains (text : List ℕ) : Piece → Type 0 where
  skip : (bytes : ℕ) → IsGap (take bytes text) (drop bytes text) → Explains text (Skip bytes)
  take_token : (kind : Kind) (bytes : ℕ) → bytes ≤ length text → IsToken kind (take bytes text) → IsInRange kind → IsLongest bytes text
      → Explains text (Take kind bytes)
  beyond : BeginsTooBig text → Explains text TooBig
  bad : (bytes : ℕ) → bytes ≤ length text → StopsShort (take bytes text) (drop bytes text) → Explains text (Bad bytes)

module _ (b : ℕ) (bs : List ℕ) where
  taken : (kind : Kind) (bytes : ℕ) → Stands b bs (Take kind bytes) → IsInRange kind → Explains (b ∷ bs) (Take kind bytes)
  taken kind bytes stands range =
      let fits : FitsIn (length (b ∷ bs)) (Take kind bytes) = stands_fits b bs _ stands in
      take_token kind bytes fits.1 (stands_sound b bs _ stands) range (stands_longest b bs _ stands)

  word_range : (row : Option ℕ) → IsInRange (word_kind row)
  word_range None = tt
  word_range (Some row) = tt

  comment_gap : eqb b 35 ≡ true
      → IsComment (take (prefix_len is_comment_byte (b ∷ bs)) (b ∷ bs)) (drop (prefix_len is_comment_byte (b ∷ bs)) (b ∷ bs))
  comment_gap hash = record {
    hash = begins-take (λ c. eqb c 35) _ (b ∷ bs) (front_some is_comment_byte (b ∷ bs) (hash_is_comment_byte b hash)) ∙ hash;
    bytes = AllPass-from_list_all is_comment_byte _ (prefix_passes is_comment_byte (b ∷ bs));
    ends = prefix_stops is_comment_byte (b ∷ bs);
  }

  explained : (piece : Piece) → Stands b bs piece → Explains (b ∷ bs) piece
  explained _ (space is) = skip 1 (inl (b, refl, is))
  explained _ (comment hash) = skip _ (inr (comment_gap hash))
  explained _ (number digit small) = taken _ _ (number digit small) (_, refl, leb-true _ _ small)
  explained _ (too_big digit big) = beyond (digits_too_big b bs digit big)
  explained _ (word letter row is) = taken _ _ (word letter row is) (word_range row)
  explained _ (register dollar letter) = taken _ _ (register dollar letter) tt
  explained _ (no_name dollar no_letter) = bad 1 (omega arith) (dollar_short b dollar bs no_letter)
  explained _ (quoted quote ends) = taken _ _ (quoted quote ends) tt
  explained _ (no_end quote goes_on) =
      let e : prefix_len is_quoted_byte bs + 1 ≡ suc (prefix_len is_quoted_byte bs) = omega arith in
      rw e (bad (suc (prefix_len is_quoted_byte bs)) (omega (arith, prefix_len-le-length is_quoted_byte bs))
      (quote_short b quote bs goes_on))
  explained _ (pair other mark is) = taken _ _ (pair other mark is) tt
  explained _ (single other no_pair mark is) = taken _ _ (single other no_pair mark is) tt
  explained _ (no_equals other no_pair no_single is) = bad 1 (omega arith) (bang_short b other bs no_pair no_single is)
  explained _ (stray other no_single isnt) = bad 0 (omega arith) (stray_short b other bs no_single isnt)

-- what a lexing says of its text
abbrev pub Outcome : List ℕ → List ℕ → Result (List Token) LexFault → Type 0
Outcome before text (Ok tokens) = Splits before text tokens []
Outcome before text (Err fault) = StopsAt before text fault

module _ (before text : List ℕ) where
  joined : (bytes : ℕ) → (before ++ take bytes text) ++ drop bytes text ≡ before ++ text
  joined bytes = append_assoc before (take bytes text) (drop bytes text) ∙ ap (λ t. before ++ t) (take-append-drop bytes text)

  after_gap : (bytes : ℕ) (tokens : List Token) (left : List ℕ) → IsGap (take bytes text) (drop bytes text)
      → Splits (before ++ take bytes text) (drop bytes text) tokens left → Splits before text tokens left
  after_gap bytes tokens left is splits =
      subst (λ t. Splits before t tokens left) (take-append-drop bytes text) (gap (take bytes text) is splits)

  after_token : (kind : Kind) (bytes : ℕ) (tokens : List Token) (left : List ℕ) → bytes ≤ length text
      → IsToken kind (take bytes text) → IsInRange kind → IsLongest bytes text
      → Splits (before ++ take bytes text) (drop bytes text) tokens left
      → Splits before text (token_after before kind bytes ∷ tokens) left
  after_token kind bytes tokens left le is range longest splits =
      let n : length (take bytes text) ≡ bytes = omega (arith, length-take bytes text) in
      let e : take bytes text ++ drop bytes text ≡ text = take-append-drop bytes text in
      subst (λ t. Splits before t (token_after before kind bytes ∷ tokens) left) e
      (subst (λ k. Splits before (take bytes text ++ drop bytes text) (token_after before kind k ∷ tokens) left) n
      (token kind (take bytes text) is range (rw (n, e) longest) splits))

  outcome_gap : (bytes : ℕ) (lexing : Result (List Token) LexFault) → IsGap (take bytes text) (drop bytes text)
      → Outcome (before ++ take bytes text) (drop bytes text) lexing → Outcome before text lexing
  outcome_gap bytes (Ok tokens) is splits = after_gap bytes tokens [] is splits
  outcome_gap bytes (Err fault) is stops = record {
    front = stops.front;
    left = stops.left;
    tokens = stops.tokens;
    parts = sym (joined bytes) ∙ stops.parts;
    splits = after_gap bytes stops.tokens stops.left is stops.splits;
    stuck = stops.stuck;
  }

  outcome_token : (kind : Kind) (bytes : ℕ) (lexing : Result (List Token) LexFault) → bytes ≤ length text
      → IsToken kind (take bytes text) → IsInRange kind → IsLongest bytes text
      → Outcome (before ++ take bytes text) (drop bytes text) lexing
      → Outcome before text (followed_by (token_after before kind bytes) lexing)
  outcome_token kind bytes (Ok tokens) le is range longest splits = after_token kind bytes tokens [] le is range longest splits
  outcome_token kind bytes (Err fault) le is range longest stops = record {
    front = stops.front;
    left = stops.left;
    tokens = token_after before kind bytes ∷ stops.tokens;
    parts = sym (joined bytes) ∙ stops.parts;
    splits = after_token kind bytes stops.tokens stops.left le is range longest stops.splits;
    stuck = stops.stuck;
  }

  outcome_by : (piece : Piece) → Explains text piece → FitsIn (length text) piece
      → ((bytes : ℕ) → 1 ≤ bytes → Outcome (before ++ take bytes text) (drop bytes text)
      (lexed_after (before ++ take bytes text) 0 (drop bytes text)))
      → Outcome before text (lexed_by before text piece)
  outcome_by _ (skip bytes is) fits rest = outcome_gap bytes _ is (rest bytes fits.0)
  outcome_by _ (take_token kind bytes le is range longest) fits rest =
      outcome_token kind bytes _ le is range longest (rest bytes (least_some kind bytes fits.0))
  outcome_by _ (beyond big) fits rest =
      record { front = before; left = text; tokens = []; parts = refl; splits = nothing; stuck = (refl, big) }
  outcome_by _ (bad bytes le short) fits rest =
      record { front = before; left = text; tokens = []; parts = refl; splits = nothing; stuck = (bytes, refl, le, short) }

outcome : (fuel : ℕ) (before text : List ℕ) → length text ≤ fuel → Outcome before text (lexed_after before 0 text)
outcome fuel before [] le = nothing
outcome zero before (b ∷ bs) le = absurd (omega arith)
outcome (suc fuel) before (b ∷ bs) le =
    subst (Outcome before (b ∷ bs)) (sym (lexed_front before (b ∷ bs) (omega arith)))
    (outcome_by before (b ∷ bs) (piece_of (b ∷ bs)) (explained b bs _ (piece_stands b bs)) (piece_fits (b ∷ bs) (omega arith))
    (λ bytes some. outcome fuel (before ++ take bytes (b ∷ bs)) (drop bytes (b ∷ bs)) (omega (arith, length-drop bytes (b ∷ bs)))))

if_lexed : (text : List ℕ) (long : Bool) (lexing : Result (List Token) LexFault)
    → (if long then Err TooLong else lexed_after [] 0 text) ≡ lexing
    → long ≡ false → Outcome [] text lexing
if_lexed text true lexing is short = cc
if_lexed text false lexing is short = subst (Outcome [] text) is (outcome (length text) [] text (omega arith))

pub lexings_split : LexingsSplit
lexings_split text tokens is = go (ltb MOST_PROGRAM_BYTES (length text)) refl is
  where
    go : (long : Bool) → ltb MOST_PROGRAM_BYTES (length text) ≡ long → (if long then Err TooLong else lexed_after [] 0 text) ≡ Ok tokens
        → Splits [] text tokens []
    go true long lexing = cc
    go false long lexing = if_lexed text false (Ok tokens) lexing refl

pub faults_stop : FaultsStop
faults_stop text fault le is = if_lexed text _ (Err fault) is (grind (arith, nat_tests))
