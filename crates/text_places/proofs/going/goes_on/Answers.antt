use Rattle.std.proofs.Common.{◌≡◌, ◌≢◌, ◌∙◌, ◌++◌, ◌∷◌, ◌+◌, ℕ, List, [], Bool, true, false, not, length, refl, ap, subst, eqb, arith}
use Rattle.std.proofs.lemmas.Bool.Decides.{nat_tests}
use Rattle.std.specs.Bool.{IsTrue}
use Rattle.task_parser.specs.declared.token.Token.{Token}
use Rattle.task_parser.specs.meaning.Promise.{StandFor}
use Rattle.task_parser.specs.declared.fault.ParseFault.TheVariants.{Unexpected, TooDeep}
use Rattle.task_parser.specs.meaning.Answer.{IsFirstFault}
use Rattle.task_ast.specs.View.{plain_program}
use Rattle.text_places.specs.Expected.{token_past, GoesOn}
use Rattle.text_places.proofs.NextTokens.{stood, at_past, elsewhere, beyond}
use Rattle.text_places.proofs.going.goes_on.Goals as goal

-- a test whether two numbers differ tells of a fact, where each way the fact goes with it
told : (n m : ℕ) (P : Type 0) → (n ≡ m → P → ⊥) → (n ≢ m → P) → (b : Bool) → eqb n m ≡ b → (IsTrue (not b) → P) × (P → IsTrue (not b))
told n m P same other true e = (λ t. absurd (cc), λ p. absurd (same (grind (arith, nat_tests)) p))
told n m P same other false e = (λ t. other (grind (arith, nat_tests)), λ p. refl)

pub returns-in-Ok : goal.returns-in-Ok
returns-in-Ok c =
    let text = c.args.text.now in
    let tried : c.push.new.self ≡ c.args.front.now ++ token_past text c.args.kind ∷ [] =
    c.in_ok-push.ensures.ok ∙ ap (λ (l : List Token). l ++ token_past text c.args.kind ∷ []) c.in_ok-tokens.ensures in (
      λ _. stood text c.args.front.now c.args.kind (plain_program c.in-Ok._program)
          (subst (λ (l : List Token). StandFor text l (plain_program c.in-Ok._program)) tried c.in-Ok.ensures.found),
      λ _. refl,
    )

pub returns-in-Err-Unexpected : goal.returns-in-Err-Unexpected
returns-in-Err-Unexpected c =
    let text = c.args.text.now in
    let at = c.in-Err-Unexpected.at in
    let tried : c.push.new.self ≡ c.args.front.now ++ token_past text c.args.kind ∷ [] =
    c.in_ok-push.ensures.ok ∙ ap (λ (l : List Token). l ++ token_past text c.args.kind ∷ []) c.in_ok-tokens.ensures in
    let fault = rw c.in-Err-Unexpected.field-0-is at c.in-Err-Unexpected.ensures.fault in
    let here : IsFirstFault text (c.args.front.now ++ token_past text c.args.kind ∷ []) (Unexpected at) =
    subst (λ (l : List Token). IsFirstFault text l (Unexpected at)) tried fault in
    let front = c.requires.front in
    told at (length text + 1) (GoesOn text c.args.front.now c.args.kind)
    (λ e. at_past text front.0 c.args.front.now c.args.kind front.1 at here e)
    (λ e. elsewhere text front.0 c.args.front.now c.args.kind front.1 at here e)
    (eqb at (length text + 1)) refl

pub returns-in-Err-TooDeep : goal.returns-in-Err-TooDeep
returns-in-Err-TooDeep c =
    let text = c.args.text.now in
    let at = c.in-Err-TooDeep.field-0-0 in
    let tried : c.push.new.self ≡ c.args.front.now ++ token_past text c.args.kind ∷ [] =
    c.in_ok-push.ensures.ok ∙ ap (λ (l : List Token). l ++ token_past text c.args.kind ∷ []) c.in_ok-tokens.ensures in
    let fault = rw c.in-Err-TooDeep.field-0-is at c.in-Err-TooDeep.ensures.fault in
    let here : IsFirstFault text (c.args.front.now ++ token_past text c.args.kind ∷ []) (TooDeep at) =
    subst (λ (l : List Token). IsFirstFault text l (TooDeep at)) tried fault in
    let front = c.requires.front in
    (λ _. beyond text front.0 c.args.front.now c.args.kind front.1 at here, λ _. refl)
