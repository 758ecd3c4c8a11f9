-- Faults that are struck.
use Rattle.std.proofs.Common.{◌≡◌, inl, inr, ℕ, zero, suc, ◌<◌, min, Bool, true, false, cond, List, [], ◌∷◌, length, Contains, Option, Some, None, refl, sym, ap, ◌∙◌, arith, nat_eq, nat_lt, get_or}
use Rattle.std.specs.Option.{option_or, option_map_or}
use Rattle.std.proofs.lemmas.Bool.{both_ways, eqb-true, eq-eqb, ltb-true, lt-ltb, and_parts, and_from, cases_eq}
use Rattle.std.proofs.lemmas.List.Elements.{Contains-append_left, Contains-append_right}
use Rattle.gp_base.specs.declared.fault.Fault.{Fault}
use Rattle.dependence.specs.meaning.Restarts.{Dependence, Progress, drains, attempt_of, is_live, is_due, least_struck, struck_next}
use Rattle.dependence.specs.Standing.{NamesAttempt}

-- the head of a list stands in it, and so does each member of its tail
pub Contains-head : {X : Type 0} (x : X) (xs : List X) → Contains (x ∷ xs) x
Contains-head x xs = Contains-append_left (x ∷ []) xs x (0, omega arith, refl)

pub Contains-later : {X : Type 0} (y : X) (xs : List X) (x : X) → Contains xs x → Contains (y ∷ xs) x
Contains-later y xs x h = Contains-append_right (y ∷ []) xs x h

-- a fault of the list passes the test and strikes this position
abbrev pub Strikes : (test : Fault → Bool) (faults : List Fault) (p : ℕ) → Type 0
Strikes test faults p = (fault : Fault) × Contains faults fault × (test fault ≡ true) × (fault.pos ≡ p)

-- the position that is struck is that of a passing fault
struck-by : (test : Fault → Bool) (faults : List Fault) (p : ℕ) → least_struck test faults ≡ Some p → Strikes test faults p
struck-by test [] p e = absurd (cc e)
struck-by test (x ∷ xs) p e = go (test x) refl e (struck-by test xs)
  where
    deeper : (q : ℕ) → Strikes test xs q → Strikes test (x ∷ xs) q
    deeper q h = (h.0, Contains-later x xs h.0 h.1, h.2, h.3)

    pick : test x ≡ true → (o : Option ℕ) → least_struck test xs ≡ o → option_map_or (min x.pos) o x.pos ≡ p
        → ((q : ℕ) → least_struck test xs ≡ Some q → Strikes test xs q) → Strikes test (x ∷ xs) p
    pick t None f l ih = (x, Contains-head x xs, t, l)
    pick t (Some q) f l ih =
        elim (cases_eq x.pos p) [
          | inl same ↦ (x, Contains-head x xs, t, same)
          | inr ne ↦ (let k : q ≡ p = omega arith in deeper p (ih p (f ∙ ap Some k)))
        ]

    go : (b : Bool) → test x ≡ b → cond b (Some (option_map_or (min x.pos) (least_struck test xs) x.pos)) (least_struck test xs) ≡ Some p
        → ((q : ℕ) → least_struck test xs ≡ Some q → Strikes test xs q) → Strikes test (x ∷ xs) p
    go true t f ih = pick t (least_struck test xs) refl (cc f) ih
    go false t f ih = deeper p (ih p f)

-- where no position is struck, no fault passes
none-struck : (test : Fault → Bool) (faults : List Fault) → least_struck test faults ≡ None → (k : ℕ) (d : Fault) → k < length faults
    → test (get_or faults k d) ≡ false
none-struck test [] e k d l = absurd (omega arith)
none-struck test (x ∷ xs) e zero d l = go (test x) refl e
  where
    go : (b : Bool) → test x ≡ b → cond b (Some (option_map_or (min x.pos) (least_struck test xs) x.pos)) (least_struck test xs) ≡ None
        → test x ≡ false
    go true t f = absurd (cc f)
    go false t f = t
none-struck test (x ∷ xs) e (suc j) d l = go (test x) refl e (λ f. none-struck test xs f j d (omega arith))
  where
    go : (b : Bool) → test x ≡ b → cond b (Some (option_map_or (min x.pos) (least_struck test xs) x.pos)) (least_struck test xs) ≡ None
        → (least_struck test xs ≡ None → test (get_or xs j d) ≡ false) → test (get_or xs j d) ≡ false
    go true t f ih = absurd (cc f)
    go false t f ih = ih f

pub none-among : (test : Fault → Bool) (faults : List Fault) (fault : Fault) → least_struck test faults ≡ None → Contains faults fault
    → test fault ≡ false
none-among test faults fault e h = ap test (sym h.2) ∙ none-struck test faults e h.0 fault h.1

-- where no fault passes, no position is struck
pub none-left : (test : Fault → Bool) (faults : List Fault) → ((fault : Fault) → Contains faults fault → test fault ≡ false)
    → least_struck test faults ≡ None
none-left test faults none = go (least_struck test faults) refl
  where
    go : (o : Option ℕ) → least_struck test faults ≡ o → o ≡ None
    go None e = refl
    go (Some p) e = let s = struck-by test faults p e in absurd (both_ways (test s.0) (none s.0 s.1) s.2)

-- the position that is struck next has a live fault
pub struck-live : (dependence : Dependence) (faults : List Fault) (at : Progress) (p : ℕ) → struck_next dependence faults at ≡ Some p
    → (p < at.front) × NamesAttempt faults p (attempt_of at.made p)
struck-live dependence faults at p e = go (least_struck (is_due at) faults) refl e
  where
    Live : Type 0
    Live = (p < at.front) × NamesAttempt faults p (attempt_of at.made p)

    found : (test : Fault → Bool) → ((fault : Fault) → test fault ≡ true → is_live at fault ≡ true) → least_struck test faults ≡ Some p
        → Live
    found test live f =
        let s = struck-by test faults p f in
        let l = and_parts (nat_lt (s.0).pos at.front) (nat_eq (s.0).attempt (attempt_of at.made (s.0).pos)) (live s.0 s.2) in
        let below : (s.0).pos < at.front = ltb-true _ _ l.0 in
        let same : (s.0).pos ≡ p = s.3 in
        (omega arith, (s.0, s.1, s.3, eqb-true _ _ l.1 ∙ ap (attempt_of at.made) s.3))

    go : (o : Option ℕ) → least_struck (is_due at) faults ≡ o
        → option_or o (cond (drains dependence at.front) (least_struck (is_live at) faults) None) ≡ Some p → Live
    go (Some q) f g = found (is_due at) (λ fault d. (and_parts (is_live at fault) _ d).0) (f ∙ g)
    go None f g = at_drain (drains dependence at.front) g
      where
        at_drain : (b : Bool) → cond b (least_struck (is_live at) faults) None ≡ Some p → Live
        at_drain true h = found (is_live at) (λ fault d. d) h
        at_drain false h = absurd (cc h)

-- a fault that names the present attempt of a position below the front is live
pub names-live : (faults : List Fault) (at : Progress) (p : ℕ) → p < at.front → (n : NamesAttempt faults p (attempt_of at.made p))
    → is_live at n.0 ≡ true
names-live faults at p l n =
    let same : (n.0).pos ≡ p = n.2 in
    and_from (nat_lt (n.0).pos at.front) (nat_eq (n.0).attempt (attempt_of at.made (n.0).pos)) (lt-ltb _ _ (omega arith))
    (eq-eqb _ _ (n.3 ∙ ap (attempt_of at.made) (sym n.2)))
