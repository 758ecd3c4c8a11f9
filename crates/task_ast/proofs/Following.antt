-- Bodies of points that follow one another are equal.
use Rattle.std.proofs.Common.{◌≡◌, ℕ, zero, suc, ◌<◌, ◌∷◌, Option, Some, None, refl, sym, ap, ◌∙◌, subst, ⊎_elim, arith}
use Rattle.std.specs.Prelude.{◌⊎◌}
use Rattle.task_ast.specs.meaning.Body.{Step, Silent, Iteration, Body, follow, body, stopped, spent}
use Rattle.task_ast.specs.Body.{after_turn, IsSized}
use Rattle.task_ast.specs.laws.Following.{Matches, both_silent, both_turn, both_act, both_stop, IsFollowing, Agrees}
use Rattle.task_ast.proofs.Bodies.{body_step}

module _ {P Q : Type 0} (R : P → Q → Type 0) (of_p : P → Step P) (of_q : Q → Step Q) (size_p : P → ℕ) (size_q : Q → ℕ)
    (sized_p : IsSized of_p size_p) (sized_q : IsSized of_q size_q) (following : IsFollowing R of_p of_q) where
  -- the same turns taken from points further on agree
  abbrev AfterTurns : Option (P → Body P) → Option (Q → Body Q) → Type 0
  AfterTurns None None = Unit {0}
  AfterTurns (Some f) (Some g) = (p : P) (q : Q) → R p q → Agrees R (f p) (g q)
  AfterTurns _ _ = ⊥

  turned : (p : P) (q : Q) → R p q → (p' : P) (q' : Q) → R p' q' → (tf : Option (P → Body P)) (tg : Option (Q → Body Q)) → AfterTurns tf tg
      → Agrees R (follow p (Iteration p') (λ x. stopped spent x) tf) (follow q (Iteration q') (λ x. stopped spent x) tg)
  turned p q r p' q' r' None None after = record { actions = refl; next = refl; at = r }
  turned p q r p' q' r' (Some f) (Some g) after = after p' q' r'
  turned p q r p' q' r' None (Some g) after = absurd after
  turned p q r p' q' r' (Some f) None after = absurd after

  matched : (p : P) (q : Q) → R p q → (s : Step P) (t : Step Q) → of_q q ≡ t → Matches R s t → (f : P → Body P) (g : Q → Body Q)
      → ((p' : P) (q' : Q) → size_q q' < size_q q → R p' q' → Agrees R (f p') (g q'))
      → (tf : Option (P → Body P)) (tg : Option (Q → Body Q)) → AfterTurns tf tg → Agrees R (follow p s f tf) (follow q t g tg)
  matched p q r s t is (both_silent {p = p'} {q = q'} r') f g agree tf tg after = agree p' q' (sized_q.silent q q' is) r'
  matched p q r s t is (both_act {p = p'} {q = q'} {a} r') f g agree tf tg after =
      let rest = agree p' q' (sized_q.acts q q' a is) r' in
      record { actions = ap (λ l. a ∷ l) rest.actions; next = rest.next; at = rest.at }
  matched p q r s t is (both_turn {p = p'} {q = q'} r') f g agree tf tg after = turned p q r p' q' r' tf tg after
  matched p q r s t is both_stop f g agree tf tg after = record { actions = refl; next = refl; at = r }

  by_case : (turns : ℕ) → AfterTurns (after_turn of_p size_p turns) (after_turn of_q size_q turns) → (p : P) (q : Q) → R p q
      → ((p' : P) (q' : Q) → size_q q' < size_q q → R p' q' → Agrees R (body of_p size_p turns p') (body of_q size_q turns q'))
      → ((q' : Q) × (of_q q ≡ Silent q') × R p q') ⊎ Matches R (of_p p) (of_q q)
      → Agrees R (body of_p size_p turns p) (body of_q size_q turns q)
  by_case turns after p q r agree choice =
      ⊎_elim
      (λ jump.
      let next = body_step of_q size_q sized_q turns q in
      let on = ap (λ t. follow q t (body of_q size_q turns) (after_turn of_q size_q turns)) jump.1 in
      subst (λ b. Agrees R (body of_p size_p turns p) b) (sym (next ∙ on)) (agree p jump.0 (sized_q.silent q jump.0 jump.1) jump.2))
      (λ same.
      subst (λ b. Agrees R (body of_p size_p turns p) b) (sym (body_step of_q size_q sized_q turns q))
      (subst (λ b. Agrees R b (follow q (of_q q) (body of_q size_q turns) (after_turn of_q size_q turns)))
      (sym (body_step of_p size_p sized_p turns p))
      (matched p q r (of_p p) (of_q q) refl same (body of_p size_p turns) (body of_q size_q turns) agree (after_turn of_p size_p turns)
      (after_turn of_q size_q turns) after)))
      choice

  below : (turns : ℕ) → AfterTurns (after_turn of_p size_p turns) (after_turn of_q size_q turns) → (n : ℕ) (p : P) (q : Q) → size_q q < n
      → R p q → Agrees R (body of_p size_p turns p) (body of_q size_q turns q)
  below turns after zero p q less r = absurd (omega arith)
  below turns after (suc n) p q less r =
      by_case turns after p q r (λ p' q' smaller r'. below turns after n p' q' (omega arith) r') (following p q r)

  -- the bodies of related points agree
  pub bodies_agree : (turns : ℕ) (p : P) (q : Q) → R p q → Agrees R (body of_p size_p turns p) (body of_q size_q turns q)
  bodies_agree zero p q r = below zero tt (suc (size_q q)) p q (omega arith) r
  bodies_agree (suc turns) p q r = below (suc turns) (bodies_agree turns) (suc (size_q q)) p q (omega arith) r
