-- How a body goes, step by step.
use Rattle.std.proofs.Common.{◌≡◌, ℕ, zero, suc, ◌<◌, Option, Some, None, refl, ap, arith}
use Rattle.task_ast.specs.meaning.Action.{Action}
use Rattle.task_ast.specs.meaning.Body.{Step, Silent, Iteration, Act, Stop, Body, with_action, follow, stretch, body}
use Rattle.task_ast.specs.Body.{IsSized, after_turn}

module _ {P : Type 0} (step : P → Step P) (size : P → ℕ) (sized : IsSized step size) where
  -- more steps than the size change nothing
  follow_same : (turned : Option (P → Body P)) (p : P) (s : Step P) (f g : P → Body P) → ((q : P) → s ≡ Silent q → f q ≡ g q)
      → ((q : P) (a : Action) → s ≡ Act a q → f q ≡ g q) → follow p s f turned ≡ follow p s g turned
  follow_same turned p (Silent q) f g same_silent same_act = same_silent q refl
  follow_same turned p (Act a q) f g same_silent same_act = ap (with_action a) (same_act q a refl)
  follow_same None p (Iteration q) f g same_silent same_act = refl
  follow_same (Some turned) p (Iteration q) f g same_silent same_act = refl
  follow_same turned p (Stop next) f g same_silent same_act = refl

  pub enough : (turned : Option (P → Body P)) (m n : ℕ) (p : P) → size p < m → size p < n
      → stretch step size turned m p ≡ stretch step size turned n p
  unfolding stretch
  enough turned zero n p below_m below_n = absurd (omega arith)
  enough turned (suc m) zero p below_m below_n = absurd (omega arith)
  enough turned (suc m) (suc n) p below_m below_n =
      follow_same turned p (step p) (stretch step size turned m) (stretch step size turned n)
      (λ q is. let less = sized.silent p q is in enough turned m n q (omega arith) (omega arith))
      (λ q a is. let less = sized.acts p q a is in enough turned m n q (omega arith) (omega arith))

  -- a body is one step, and then the body from there
  pub body_step : (turns : ℕ) (p : P) → body step size turns p ≡ follow p (step p) (body step size turns) (after_turn step size turns)
  unfolding body stretch
  body_step zero p =
      follow_same None p (step p) (stretch step size None (size p)) (body step size zero)
      (λ q is. let less = sized.silent p q is in enough None (size p) (suc (size q)) q less (omega arith))
      (λ q a is. let less = sized.acts p q a is in enough None (size p) (suc (size q)) q less (omega arith))
  body_step (suc turns) p =
      follow_same (Some (body step size turns)) p (step p) (stretch step size (Some (body step size turns)) (size p))
      (body step size (suc turns))
      (λ q is. let less = sized.silent p q is in enough (Some (body step size turns)) (size p) (suc (size q)) q less (omega arith))
      (λ q a is. let less = sized.acts p q a is in enough (Some (body step size turns)) (size p) (suc (size q)) q less (omega arith))
