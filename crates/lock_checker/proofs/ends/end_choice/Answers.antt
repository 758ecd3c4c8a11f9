use Rattle.std.proofs.Common.{[], ◌∷◌, refl, subst, sym}
use Rattle.task_ast.specs.meaning.Visit.{visit}
use Rattle.lock_checker.specs.inner.Faults.{WalksAside}
use Rattle.lock_checker.specs.inner.Pairs.{pairs_of, Moves}
use Rattle.lock_checker.proofs.EndLemmas.{told_between, none_after, unchanged}
use Rattle.lock_checker.proofs.ends.end_choice.Goals as goal

pub returns-in-Err : goal.returns-in-Err
returns-in-Err c = λ line old new earlier visits end none walks.
    told_between c.in-Err.fault earlier visits (visit line [] ∷ []) none (subst (λ r. WalksAside r old new visits end) c.in-Err.is walks)

pub returns : goal.returns
returns c = λ line old new earlier visits end none walks.
    let w = subst (λ r. WalksAside r old new visits end) c.in-Ok.is walks in (
      none_after line earlier visits none w.0,
      subst (λ l. Moves old (pairs_of l) new old) (sym c.clear.ensures.items) (unchanged old new [] (λ q. refl, λ q. refl) w.1),
    )
