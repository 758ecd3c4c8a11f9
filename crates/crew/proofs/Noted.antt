-- A value that is handed on out of an answer.
use Rattle.std.proofs.Common.{◌≡◌, Result, Ok, Err, IfOk, OnOk, subst, sym}

-- what an answer's value has, the value that is handed on has
pub handed_on : {T E F : Type 0} (P : T → Type 0) (answer : Result T E) (result : Result T F) → IfOk result (λ value. answer ≡ Ok value)
    → IfOk answer P → IfOk result P
handed_on P answer (Ok value) same met = subst (λ r. IfOk r P) same met
handed_on P answer (Err e) same met = tt

-- and also what it has beside a state, where that stays then
pub handed_on_beside : {S T E F : Type 0} (P : S → T → Type 0) (before after : S) (answer : Result T E) (result : Result T F)
    → IfOk result (λ value. answer ≡ Ok value) → OnOk result (after ≡ before) → IfOk answer (P before) → IfOk result (P after)
handed_on_beside P before after answer (Ok value) same kept met =
    subst (λ s. P s value) (sym kept) (subst (λ r. IfOk r (P before)) same met)
handed_on_beside P before after answer (Err e) same kept met = tt
