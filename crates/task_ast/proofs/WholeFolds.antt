-- The fold of a whole run without damage.
use Rattle.std.proofs.Common.{◌≡◌, ℕ, zero, suc, true, List, [], ◌∷◌, map, length, Option, Some, None, refl, ap, ◌∙◌, option_map}
use Rattle.std.specs.Prelude.{ℤ, pos}
use Rattle.gp_base.specs.declared.limits.Limits.{Limits}
use Rattle.gp_base.specs.declared.feed.Inputs.{Inputs}
use Rattle.gp_base.specs.declared.ending.End.{End}
use Rattle.task_ast.specs.meaning.Tree.{Program}
use Rattle.task_ast.specs.meaning.Repeat.{Move, Goes, Ends, steps, steps_from, state_after, state_from}
use Rattle.task_ast.specs.meaning.State.{State}
use Rattle.task_ast.specs.declared.effect.Effect.{Effect}
use Rattle.task_ast.specs.meaning.Effect.{effect, after}
use Rattle.task_ast.specs.Damage.{masked, all_masked, damaged}
use Rattle.task_ast.specs.Turn.{Turn, Issue, Needs, Ended, next_issue}
use Rattle.task_ast.specs.meaning.Plain.{Subthread}
use Rattle.task_ast.specs.Plain.{Plain, on_turn, move}
use Rattle.task_ast.specs.Fold.{Member, applied, fold}
use Rattle.task_ast.specs.Members.{member_in}

map_same : {A : Type 0} (f : A → A) → ((a : A) → f a ≡ a) → (xs : List A) → map f xs ≡ xs
map_same f same [] = refl
map_same f same (x ∷ xs) = ap (λ y. y ∷ map f xs) (same x) ∙ ap (λ ys. x ∷ ys) (map_same f same xs)

unmasked : (values : List ℤ) → all_masked (pos 0) values ≡ values
unmasked values = map_same (masked (pos 0)) (λ v. refl) values

undamaged_child : (child : Option (ℕ × List ℤ)) → option_map (λ c. (c.0, all_masked (pos 0) c.1)) child ≡ child
undamaged_child None = refl
undamaged_child (Some c) = ap (λ values. Some (c.0, values)) (unmasked c.1)

pub undamaged : (e : Effect) → damaged (pos 0) e ≡ e
undamaged e =
    let regs = unmasked e.regs in
    let child = undamaged_child e.child in
    let writes : map (λ w. (w.0, masked (pos 0) w.1)) e.writes ≡ e.writes =
    map_same (λ w. (w.0, masked (pos 0) w.1)) (λ w. refl) e.writes in
    let prints = map_same (all_masked (pos 0)) unmasked e.prints in
    λ i. record { thread = e.thread; writes = writes i; regs = regs i; child = child i; prints = prints i }

-- the first member first
fold_first : (members : ℕ → Member) (state : State) (n : ℕ)
    → fold members state (λ p. true) (suc n) ≡ fold (λ p. members (suc p)) (applied (members 0) state) (λ p. true) n
fold_first members state zero = refl
fold_first members state (suc n) = ap (applied (members (suc n))) (fold_first members state n)

module _ (program : Program) (inputs : Inputs) (limits : Limits) where
  step_fold : (n : ℕ) (p q : Plain) (s : Subthread) → after (effect s.thread s.begins.sync s.child s.actions p.state) p.state ≡ q.state
      → fold (member_in (steps (move program inputs limits) n q) (λ k. pos 0)) q.state (λ k. true)
      (length (steps (move program inputs limits) n q))
      ≡ (state_after (move program inputs limits) n q).state
      → fold (member_in (s ∷ steps (move program inputs limits) n q) (λ k. pos 0)) p.state (λ k. true)
      (suc (length (steps (move program inputs limits) n q)))
      ≡ (state_after (move program inputs limits) n q).state
  step_fold n p q s moved rest =
      fold_first (member_in (s ∷ steps (move program inputs limits) n q) (λ k. pos 0)) p.state
      (length (steps (move program inputs limits) n q))
      ∙ ap (λ state. fold (member_in (steps (move program inputs limits) n q) (λ k. pos 0)) state (λ k. true)
      (length (steps (move program inputs limits) n q)))
      (ap (λ e. after e p.state) (undamaged (effect s.thread s.begins.sync s.child s.actions p.state)) ∙ moved)
      ∙ rest

  -- a subthread's step leaves the state after its effect
  data Follows (p : Plain) : Move Plain Subthread End → Type 0 where
    goes : {s : Subthread} {q : Plain} → after (effect s.thread s.begins.sync s.child s.actions p.state) p.state ≡ q.state
        → Follows p (Goes s q)
    stops : {ending : End} → Follows p (Ends ending)

  follows : (p : Plain) (r : Turn) → Follows p (on_turn program inputs limits p r)
  follows p (Issue t next child table) = goes refl
  follows p (Needs t) = stops
  follows p (Ended ending) = stops

  pub fold_is : (n : ℕ) (p : Plain)
      → fold (member_in (steps (move program inputs limits) n p) (λ q. pos 0)) p.state (λ q. true)
      (length (steps (move program inputs limits) n p))
      ≡ (state_after (move program inputs limits) n p).state
  unfolding steps state_after
  fold_is zero p = refl
  fold_is (suc n) p = go (on_turn program inputs limits p (next_issue p.table)) (follows p (next_issue p.table)) (fold_is n)
    where
      go : (m : Move Plain Subthread End) → Follows p m
          → ((q : Plain) → fold (member_in (steps (move program inputs limits) n q) (λ k. pos 0)) q.state (λ k. true)
          (length (steps (move program inputs limits) n q))
          ≡ (state_after (move program inputs limits) n q).state)
          → fold (member_in (steps_from (move program inputs limits) m (steps (move program inputs limits) n)) (λ k. pos 0)) p.state
          (λ k. true)
          (length (steps_from (move program inputs limits) m (steps (move program inputs limits) n)))
          ≡ (state_from (move program inputs limits) p m (state_after (move program inputs limits) n)).state
      go (Goes s q) (goes moved) again = step_fold n p q s moved (again q)
      go (Ends ending) at again = refl
