use Rattle.std.proofs.Common.{◌≡◌, ◌∙◌, ap, subst, true, [], ◌∷◌, inl, inr, refl, Some, None, if◌then◌else◌}
use Rattle.clap.specs.Kinds.{HasKind}
use Rattle.clap.specs.Words.{App, Kinds, app_of, fault_of, is_simple, is_simple_and_free, kind_of, matches_of}
use Rattle.clap.specs.declared.error.Error.{Error}
use Rattle.clap.specs.declared.error.kind.ErrorKind.TheVariants.{OutOfMemory}
use Rattle.clap.proofs.WalkLemmas.{both}
use Rattle.command_line.specs.Arguments.{found_rows}
use Rattle.command_line.specs.meaning.Arguments.{is_faultless}
use Rattle.command_line.specs.meaning.Words.{accepted, texts}
use Rattle.command_line.proofs.arguments.taken.Goals as goal

-- what stands for a parse that has no fault, and that nothing stands for one that has
faultless : {X : Type 0} (kinds : Kinds) (found rows : X) → kinds ≡ [] → found ≡ rows → Some found ≡ (if is_faultless kinds then Some rows else None)
faultless [] found rows none same = ap Some same
faultless (kind ∷ kinds) found rows none same = cc none

faulty : {X : Type 0} (kinds : Kinds) (rows : X) (error : Error) → (kind_of error ≡ OutOfMemory → ⊥) → HasKind kinds error
    → None ≡ (if is_faultless kinds then Some rows else None)
faulty [] rows error other (inl memory) = absurd (other memory)
faulty [] rows error other (inr none) = absurd none
faulty (kind ∷ kinds) rows error other has = refl

pub returns-in-Ok : goal.returns-in-Ok
returns-in-Ok c =
    let words = texts c.args.words.now in
    let made = app_of c.in_ok-command.command in
    let simple : is_simple_and_free made ≡ true = ap is_simple_and_free c.in_ok-command.ensures ∙ c.requires in
    let rows = c.in-Ok.ensures.matches (both (is_simple made) _ simple).0 in
    subst (λ app. Some (found_rows c.in-Ok.matches) ≡ accepted app Some words) c.in_ok-command.ensures
    (faultless (fault_of made words) _ (matches_of made words) (c.in-Ok.ensures.kinds simple) rows.0)

pub returns-else-eq : goal.returns-else-eq
returns-else-eq c =
    let words = texts c.args.words.now in
    let made = app_of c.in_ok-command.command in
    let simple : is_simple_and_free made ≡ true = ap is_simple_and_free c.in_ok-command.ensures ∙ c.requires in
    let other : kind_of c.in-Err.error ≡ OutOfMemory → ⊥ = λ memory. let bad = rw (c.kind-kind.ensures ∙ memory) at c.if-eq.ensures in cc bad in
    subst (λ (app : App). None ≡ accepted app Some words) c.in_ok-command.ensures
    (faulty (fault_of made words) (matches_of made words) c.in-Err.error other (c.in-Err.ensures.kinds simple))
