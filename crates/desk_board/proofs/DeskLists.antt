-- What a pass and a clerk have after their steps.
use Rattle.std.proofs.Common.{◌≡◌, ℕ, zero, suc, ◌<◌, ◌≤◌, eqb, not, Bool, true, false, true≢false, cond, List, [], ◌∷◌, ◌++◌, length, get_or, sym, ap, ◌∙◌, subst, arith, ne_eqb}
use Rattle.std.specs.Prelude.{Option, Some, None, IfSome, Contains, All}
use Rattle.std.specs.Option.{is_some}
use Rattle.atomic_table.specs.Table.{rest}
use Rattle.desk_board.specs.declared.view.Hand.{Hand}
use Rattle.std.proofs.lemmas.List.Elements.{All-cons, All-nil, All-append}
use mathlib.Core.Logic.{dite}
use native.Mathlib.Decide.{ℕ_discrete}
use Rattle.desk_board.specs.Rule.{times}
use Rattle.desk_board.specs.Told.{hand_ended}
use Rattle.desk_board.proofs.Tallies.{times_cons, times_more, one_same, one_other}

-- a pass that has ended stays as it is
pub still_ended : (h : Hand) (m : ℕ) (o : Option ℕ) → h.ticket ≡ o → is_some o ≡ true → IfSome h.ticket (λ t. m ≤ t)
    → (t : ℕ) × (m ≤ t) × (h ≡ hand_ended t h)
still_ended h m None e some past = absurd (true≢false (sym some))
still_ended h m (Some t) e some past = (t, subst (λ (o : Option ℕ). IfSome o (λ z. m ≤ z)) e past, λ i. record h { ticket = e i })

module _ {S : Type 0} where
  -- the slot that was taken last
  pub front : (carried : List (ℕ × S)) (k : ℕ) (x : S) (xs : List (ℕ × S)) → carried ≡ (k, x) ∷ xs
      → (y : S) × (carried ≡ (k, y) ∷ rest carried)
  front carried k x xs e = (x, e ∙ ap (λ (l : List (ℕ × S)). (k, x) ∷ rest l) (sym e))

  abbrev front_or : S → List (ℕ × S) → S
  front_or d [] = d
  front_or d (x ∷ xs) = x.1

  pub front_is : (carried : List (ℕ × S)) (k : ℕ) (x y : S) (xs ys : List (ℕ × S)) → carried ≡ (k, x) ∷ xs → carried ≡ (k, y) ∷ ys → y ≡ x
  front_is carried k x y xs ys e d = ap (front_or x) (sym d ∙ e)

times_from : (k : ℕ) (xs : List ℕ) (i : ℕ) → i < length xs → get_or xs i k ≡ k → 1 ≤ times k xs
times_from k [] i l e = absurd (omega arith)
times_from k (x ∷ xs) zero l e = omega (arith, times_cons k x xs, one_same k x e)
times_from k (x ∷ xs) (suc i) l e = omega (arith, times_cons k x xs, times_from k xs i (omega arith) e)

pub times_from_Contains : (k : ℕ) (xs : List ℕ) → Contains xs k → 1 ≤ times k xs
times_from_Contains k xs c = times_from k xs c.0 c.1 c.2

pub Contains_from_times : (k : ℕ) (xs : List ℕ) → 1 ≤ times k xs → Contains xs k
Contains_from_times k [] h = absurd (omega arith)
Contains_from_times k (x ∷ xs) h = dite (ℕ_discrete x k) (λ e. (0, omega arith, e))
    (λ ne. let r = Contains_from_times k xs (omega (arith, times_cons k x xs, one_other k x ne)) in
    (suc r.0, (let l = r.1 in omega arith), r.2))

pub times_none : (k : ℕ) (xs : List ℕ) → ¬ (Contains xs k) → times k xs ≡ 0
times_none k xs not = dite (ℕ_discrete (times k xs) 0) (λ e. e) (λ ne. absurd (not (Contains_from_times k xs (omega arith))))

pub seen_below : (m k n : ℕ) (seen : List ℕ) → k < m → All (λ d. d < m) seen → All (λ d. d < m) (cond (eqb n 0) seen (seen ++ k ∷ []))
seen_below m k n seen l all = go (eqb n 0)
  where
    go : (b : Bool) → All (λ d. d < m) (cond b seen (seen ++ k ∷ []))
    go true = all
    go false = All-append (λ d. d < m) seen (k ∷ []) all (All-cons (λ d. d < m) k [] l (All-nil (λ d. d < m)))

pub below_from : (m k : ℕ) (xs : List ℕ) → All (λ d. d < m) xs → Contains xs k → k < m
below_from m k xs all c = subst (λ (z : ℕ). z < m) c.2 (all c.0 k c.1)

pub contains_last : (k : ℕ) (xs : List ℕ) → Contains (xs ++ k ∷ []) k
contains_last k xs = Contains_from_times k (xs ++ k ∷ []) (omega (arith, times_more k xs))

pub seen_now : (k n : ℕ) (seen : List ℕ) → 0 < n → Contains (cond (eqb n 0) seen (seen ++ k ∷ [])) k
seen_now k n seen h =
    subst (λ (b : Bool). Contains (cond b seen (seen ++ k ∷ [])) k) (sym (ne_eqb n 0 (λ e. omega arith))) (contains_last k seen)
