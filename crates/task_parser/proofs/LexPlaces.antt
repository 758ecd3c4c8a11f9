-- The tokens of a splitting stand in order, each in its place.
use Rattle.std.proofs.Common.{◌≡◌, ℕ, ◌+◌, ◌-◌, ◌≤◌, List, [], ◌∷◌, ◌++◌, length, refl, subst, arith, append_assoc, length-append}
use Rattle.std.specs.Prelude.{All}
use Rattle.std.proofs.lemmas.List.Elements.{All-cons}
use Rattle.std.proofs.Math.Seq.{take-append_seam, drop-append_seam}
use Rattle.task_parser.specs.declared.token.Token.{Token}
use Rattle.task_parser.specs.declared.token.Kind.{Kind}
use Rattle.task_parser.specs.TokenTable.{IsToken, IsLongest}
use Rattle.task_parser.specs.meaning.Lexing.{token_after}
use Rattle.task_parser.specs.Splitting.{Splits, nothing, gap, token, IsPlaced, AreInOrder, TokensArePlaced}
use Rattle.task_parser.proofs.LexSplits.{lexings_split}

earlier : (tokens : List Token) (place later : ℕ) → place ≤ later → AreInOrder later tokens → AreInOrder place tokens
earlier [] place later le order = tt
earlier (first ∷ tokens) place later le order = (omega (arith, order.0), order.1)

placed : (before : List ℕ) (kind : Kind) (bytes rest : List ℕ) → IsToken kind bytes → IsLongest (length bytes) (bytes ++ rest)
    → IsPlaced (before ++ (bytes ++ rest)) (token_after before kind (length bytes))
placed before kind bytes rest is longest =
    let n : length before + length bytes - length before ≡ length bytes = omega arith in
    record {
      is_token = rw (n, drop-append_seam before (bytes ++ rest), take-append_seam bytes rest) is;
      longest = rw (n, drop-append_seam before (bytes ++ rest)) longest;
      line_is = rw (take-append_seam before (bytes ++ rest)) refl;
    }

all_placed : {before text left : List ℕ} {tokens : List Token} → Splits before text tokens left
    → All (λ t. IsPlaced (before ++ text) t) tokens
all_placed nothing = λ k d lt. absurd (omega arith)
all_placed {before} (gap {rest = rest} {tokens = tokens} skipped is splits) =
    subst (λ t. All (λ u. IsPlaced t u) tokens) (append_assoc before skipped rest) (all_placed splits)
all_placed {before} (token {rest = rest} {tokens = tokens} kind bytes is range longest splits) =
    All-cons (λ t. IsPlaced (before ++ (bytes ++ rest)) t) (token_after before kind (length bytes)) tokens
    (placed before kind bytes rest is longest)
    (subst (λ t. All (λ u. IsPlaced t u) tokens) (append_assoc before bytes rest) (all_placed splits))

in_order : {before text left : List ℕ} {tokens : List Token} → Splits before text tokens left → AreInOrder (length before) tokens
in_order nothing = tt
in_order {before} (gap {tokens = tokens} skipped is splits) =
    earlier tokens (length before) (length (before ++ skipped)) (omega (arith, length-append before skipped)) (in_order splits)
in_order {before} (token {tokens = tokens} kind bytes is range longest splits) =
    (omega arith, subst (λ n. AreInOrder n tokens) (length-append before bytes) (in_order splits))

pub tokens_are_placed : TokensArePlaced
tokens_are_placed text tokens is = let splits = lexings_split text tokens is in (all_placed splits, in_order splits)
