-- Steps that follow one another are a step.
use Rattle.std.proofs.Common.{Bool, true, false, refl, arith, inl}
use Rattle.sqlite.specs.Store.{Ghosts}
use Rattle.sqlite.specs.State.{HasCleanDisk}
use Rattle.sqlite.specs.Held.{Held, state}
use Rattle.sqlite.proofs.StateLemmas.{survives_then}
use Rattle.sqlite.proofs.InsideLemmas.{keeps_then}
use Rattle.db_steps.specs.Steps.{IsStep}

module _ {S : Type 0} (g : Ghosts S) where
  -- a disk that is clean after a step was clean before it
  pub clean_before : (old new : Held S) (answered : Bool) → IsStep g old new answered → HasCleanDisk (state g new) → HasCleanDisk (state g old)
  clean_before old new answered step clean = omega (arith, step.survives.clean)

  pub step_then : (old mid new : Held S) (answered : Bool) → IsStep g old mid true → IsStep g mid new answered → IsStep g old new answered
  step_then old mid new answered first second =
      let early = λ (clean : HasCleanDisk (state g new)). clean_before mid new answered second clean in
      record {
        survives = survives_then (state g old) (state g mid) (state g new) _ _ (λ _. ⊥) (λ _ db none. none) (λ _ db none. none) first.survives second.survives;
        kept = λ clean inside.
            let on = first.inside (early clean) inside refl in
            keeps_then (state g old) (state g mid) (state g new) (first.kept (early clean) inside) (second.kept clean on);
        inside = λ clean inside answer. second.inside clean (first.inside (early clean) inside refl) answer;
      }

  -- a step whose answer is not handed on
  pub step_ends : (old new : Held S) (answered : Bool) → IsStep g old new answered → IsStep g old new false
  step_ends old new answered step = record { survives = step.survives; kept = step.kept; inside = λ clean inside no. absurd cc }

  -- where nothing was done
  pub step_none : (held : Held S) (answered : Bool) → IsStep g held held answered
  step_none held answered = record {
    survives = record { clean = omega arith; shield = λ is. is; counts = omega arith; limit = refl; closes = λ clean opened. inl opened; crash = λ clean db left. inl left };
    kept = λ clean inside. record { was_open = λ opened. opened; committed = λ opened. refl };
    inside = λ clean inside answer. inside;
  }
