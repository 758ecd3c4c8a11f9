-- A body ends before a stop or a loop turn.
use Rattle.std.proofs.Common.{◌≡◌, ℕ, zero, suc, ◌<◌, Option, Some, None, refl, sym, subst, arith}
use Rattle.task_ast.specs.declared.sync.Next.{Next}
use Rattle.task_ast.specs.meaning.Body.{Step, Silent, Iteration, Act, Stop, Body, follow, body}
use Rattle.task_ast.specs.Body.{IsSized, after_turn}
use Rattle.task_ast.proofs.Bodies.{body_step}

-- the step is a stop or a loop turn
pub data Halts {P : Type 0} : Step P → Type 0 where
  by_stop : {next : Next} → Halts (Stop next)
  by_turn : {p : P} → Halts (Iteration p)

module _ {P : Type 0} (step : P → Step P) (size : P → ℕ) (sized : IsSized step size) where
  followed : (turns : ℕ) (p : P) (s : Step P) → step p ≡ s → ((q : P) → size q < size p → Halts (step (body step size turns q).at))
      → ((q : P) (turned : P → Body P) → after_turn step size turns ≡ Some turned → Halts (step (turned q).at))
      → Halts (step (follow p s (body step size turns) (after_turn step size turns)).at)
  followed turns p (Silent q) is on turned = on q (sized.silent p q is)
  followed turns p (Act a q) is on turned = on q (sized.acts p q a is)
  followed turns p (Iteration q) is on turned = go (after_turn step size turns) refl
    where
      go : (o : Option (P → Body P)) → after_turn step size turns ≡ o → Halts (step (follow p (Iteration q) (body step size turns) o).at)
      go None none = subst Halts (sym is) by_turn
      go (Some f) there = turned q f there
  followed turns p (Stop next) is on turned = subst Halts (sym is) by_stop

  below : (turns n : ℕ) (p : P) → size p < n
      → ((q : P) (turned : P → Body P) → after_turn step size turns ≡ Some turned → Halts (step (turned q).at))
      → Halts (step (body step size turns p).at)
  below turns zero p less turned = absurd (omega arith)
  below turns (suc n) p less turned =
      subst (λ b. Halts (step b.at)) (sym (body_step step size sized turns p))
      (followed turns p (step p) refl (λ q smaller. below turns n q (omega arith) turned) turned)

  pub halts : (turns : ℕ) (p : P) → Halts (step (body step size turns p).at)
  halts zero p = below zero (suc (size p)) p (omega arith) (λ q turned is. absurd (cc is))
  halts (suc turns) p =
      below (suc turns) (suc (size p)) p (omega arith)
      (λ q turned is. subst (λ (o : Option (P → Body P)). Halts (step (used o q).at)) is (halts turns q))
    where
      used : Option (P → Body P) → P → Body P
      used None = body step size turns
      used (Some f) = f
