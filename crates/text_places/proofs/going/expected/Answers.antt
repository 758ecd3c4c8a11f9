use Rattle.std.proofs.Common.{take}
use Rattle.std.specs.Prelude.{IfOk, Result, Ok, Err}
use Rattle.text_places.specs.Expected.{IsFront}
use Rattle.text_places.proofs.NextTokens.{front_is}
use Rattle.text_places.proofs.going.expected.Goals as goal

-- what holds of a result holds of it where it implies another
widen : {T E : Type 0} (P Q : T → Type 0) (r : Result T E) → ((x : T) → P x → Q x) → IfOk r P → IfOk r Q
widen P Q (Ok x) more h = more x h
widen P Q (Err e) more h = tt

pub expected_after-requires-clause-front : goal.expected_after-requires-clause-front
expected_after-requires-clause-front c =
    let text = c.args.text.now in
    let tokens = c.args.tokens.now in
    let placed = c.tokens_are_placed.ensures text tokens c.requires.lexed in
    let front = front_is text tokens c.args.at c.requires.fault placed.1 c.requires.spans in
    (tokens, rw (c.count_before.ensures.count, c.as_slice-tokens.ensures) front)

pub returns : goal.returns
returns c =
    let text = c.args.text.now in
    let tokens = c.args.tokens.now in
    let placed = c.tokens_are_placed.ensures text tokens c.requires.lexed in
    let front = front_is text tokens c.args.at c.requires.fault placed.1 c.requires.spans in
    let before : IsFront text tokens (take c.count_before.result c.as_slice-tokens.result.now) =
    rw (c.count_before.ensures.count, c.as_slice-tokens.ensures) front in
    widen _ _ c.expected_after.result (λ kinds are. record { front = _; before = before; are = are }) c.expected_after.ensures
