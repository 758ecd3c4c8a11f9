-- The tests of journals say what they test.
use Rattle.std.proofs.Common.{◌≡◌, ℕ, ◌+◌, ◌<◌, ◌≤◌, Bool, true, false, not, ◌||◌, nat_eq, nat_le, List, [], ◌∷◌, length, Option, Some, None, Contains, refl, sym, subst}
use Rattle.std.specs.Prelude.{is_none}
use Rattle.std.specs.Bool.{Decides}
use Rattle.std.specs.Cmp.{decided, booleans_Decides}
use Rattle.std.specs.List.{list_any}
use Rattle.std.proofs.lemmas.Bool.{false≢true, eqb-true, eq-eqb, leb-true, le-leb, and_parts}
use Rattle.std.proofs.lemmas.Bool.Decides.{Decides-eqb, Decides-ltb, Decides-like, Decides-not, Decides-and, Decides-or, Decides-below_and}
use Rattle.std.proofs.lemmas.List.Folds.{Any-from_list_any, list_any-from_Any}
use Rattle.std.proofs.lemmas.Map.Views.{Contains-from_any, list_any-from_Contains}
use Rattle.gp_base.specs.declared.limits.TheConstants.{LONGEST_DELAY}
use Rattle.gp_base.specs.declared.fault.Fault.{Fault}
use Rattle.gp_base.specs.declared.journal.Event.{Event}
use Rattle.gp_base.specs.declared.journal.Event.TheVariants as event
use Rattle.dependence.specs.meaning.Restarts.{Dependence, Progress, drains, attempt_of, begun_of, is_live, is_due, least_struck, struck_next, IsFinal}
use Rattle.dependence.specs.meaning.Journal.{Stage, initial_stage, Drained, MayFollow, IsSafe, RestIsSafe, Allowed, happens, LawfulFrom, Lawful, stage, Complete}
use Rattle.dependence.specs.JournalTests.{same_attempt, all_below, is_drained, may_follow, is_safe, rest_is_safe, is_allowed, is_lawful_from, is_lawful, is_final, is_complete}

pub same_attempt-decides : (pair other : ℕ × ℕ) → Decides (same_attempt pair other) (pair ≡ other)
same_attempt-decides pair other = (
  λ e.
      (let both = and_parts (nat_eq pair.0 other.0) (nat_eq pair.1 other.1) e in
      let first = eqb-true pair.0 other.0 both.0 in
      let second = eqb-true pair.1 other.1 both.1 in
      λ i. (first i, second i)),
  λ e. subst (λ x. same_attempt pair x ≡ true) e (same pair),
)
  where
    same : (x : ℕ × ℕ) → same_attempt x x ≡ true
    same x = rw (eq-eqb x.0 x.0 refl, eq-eqb x.1 x.1 refl) refl

pub contains-decides : (pair : ℕ × ℕ) (pairs : List (ℕ × ℕ)) → Decides (list_any (same_attempt pair) pairs) (Contains pairs pair)
contains-decides pair pairs = (
  Contains-from_any (λ x y. (same_attempt-decides x y).0) pair pairs,
  list_any-from_Contains (decided same_attempt same_attempt-decides) pair pairs,
)

none-decides : (o : Option ℕ) → Decides (is_none o) (o ≡ None)
none-decides None = (λ _. refl, λ _. refl)
none-decides (Some p) = (λ e. absurd (false≢true e), λ e. absurd (cc e))

le-decides : (a b : ℕ) → Decides (nat_le a b) (a ≤ b)
le-decides a b = (leb-true a b, le-leb a b)

implies-decides : {P : Type 0} (a b : Bool) → Decides b P → Decides (not a || b) (a ≡ true → P)
implies-decides true b h = (λ e _. h.0 e, λ f. h.1 (f refl))
implies-decides false b h = (λ _ e. absurd (false≢true e), λ _. refl)

when-decides : {A B : Type 0} (a b : Bool) → Decides a A → Decides b B → Decides (not a || b) (A → B)
when-decides true b premise conclusion = (λ e _. conclusion.0 e, λ f. conclusion.1 (f (premise.0 refl)))
when-decides false b premise conclusion = (λ _ x. absurd (false≢true (premise.1 x)), λ _. refl)

true-decides : (b : Bool) → Decides b (b ≡ true)
true-decides b = (λ e. e, λ e. e)

follow-decides : (at : Stage) (o : Option ℕ) → Decides (may_follow at o) (MayFollow at o)
follow-decides at None = (λ _. tt, λ _. refl)
follow-decides at (Some earlier) = (
  λ e.
      (let h = Any-from_list_any (λ pair. nat_eq earlier pair.0) at.taken e in
      let same = eqb-true earlier h.1.0 h.4 in
      let is : h.1 ≡ (earlier, h.1.1) = (let back = sym same in λ i. (back i, h.1.1)) in
      (h.1.1, subst (Contains at.taken) is (h.0, h.2, h.3))),
  λ h. list_any-from_Any (λ pair. nat_eq earlier pair.0) at.taken (h.1.0, (earlier, h.0), h.1.1, h.1.2, eq-eqb earlier earlier refl),
)

module _ (dependence : Dependence) (faults : List Fault) where
  drained-decides : (at : Progress) → Decides (is_drained dependence faults at) (Drained dependence faults at)
  drained-decides at = Decides-and _ _ (true-decides (drains dependence at.front)) (none-decides (least_struck (is_live at) faults))

  safe-decides : (at : Stage) (q : ℕ) → Decides (is_safe at q) (IsSafe at q)
  safe-decides at q =
      Decides-like _
      (λ h. record { applied = h.0; long = h.1 })
      (λ safe. (safe.applied, safe.long))
      (Decides-and _ _ (true-decides (at.applied q)) (le-decides (begun_of at.progress.made q + LONGEST_DELAY) at.progress.front))

  rest-decides : (at : Stage) (p : ℕ) → Decides (rest_is_safe dependence at p) (RestIsSafe dependence at p)
  rest-decides at p =
      Decides-like _
      (λ h q low counted same. h q counted low same)
      (λ h q counted low same. h q low counted same)
      (Decides-below_and passes (λ q. p ≤ q → dependence.block q ≡ dependence.block p → IsSafe at q) (all_below passes)
      (λ q. when-decides (nat_le p q) _ (le-decides p q)
      (when-decides (nat_eq (dependence.block q) (dependence.block p)) _ (Decides-eqb (dependence.block q) (dependence.block p))
      (safe-decides at q))) refl (λ _. refl) dependence.count)
    where
      passes : ℕ → Bool
      passes q = not (nat_le p q) || (not (nat_eq (dependence.block q) (dependence.block p)) || is_safe at q)

  pub allowed-decides : (at : Stage) (event : Event) → Decides (is_allowed dependence faults at event) (Allowed dependence faults at event)
  allowed-decides at (event.Issue p) =
      Decides-like _
      (λ h. record { next = h.0; left = h.1.0; none_due = h.1.1.0; follows = h.1.1.1.0; settled = h.1.1.1.1 })
      (λ may. (may.next, (may.left, (may.none_due, (may.follows, may.settled)))))
      (Decides-and _ _ (Decides-eqb p at.progress.front)
      (Decides-and _ _ (Decides-ltb p dependence.count)
      (Decides-and _ _ (none-decides (least_struck (is_due at.progress) faults))
      (Decides-and _ _ (follow-decides at (dependence.before p))
      (implies-decides (dependence.settles p) (nat_eq at.retired p) (Decides-eqb at.retired p))))))
  allowed-decides at (event.Post p attempt) =
      Decides-like _
      (λ h. record { issued = h.0; unretired = h.1.0; present = h.1.1.0; unposted = h.1.1.1.0; ready = h.1.1.1.1 })
      (λ may. (may.issued, (may.unretired, (may.present, (may.unposted, may.ready)))))
      (Decides-and _ _ (Decides-ltb p at.progress.front)
      (Decides-and _ _ (le-decides at.retired p)
      (Decides-and _ _ (Decides-eqb attempt (attempt_of at.progress.made p))
      (Decides-and _ _ (Decides-not _ (contains-decides (p, attempt) at.posted)) ready))))
    where
      passes : ℕ → Bool
      passes earlier = not (dependence.clash earlier p) || at.applied earlier

      ready : Decides (all_below passes p) ((earlier : ℕ) → earlier < p → dependence.clash earlier p ≡ true → at.applied earlier ≡ true)
      ready =
          Decides-below_and passes (λ earlier. dependence.clash earlier p ≡ true → at.applied earlier ≡ true) (all_below passes)
          (λ earlier. implies-decides (dependence.clash earlier p) (at.applied earlier) (true-decides (at.applied earlier))) refl
          (λ _. refl) p
  allowed-decides at (event.Take p attempt applies) =
      Decides-like _
      (λ h. record { posted = h.0; untaken = h.1.0; decided = h.1.1 })
      (λ may. (may.posted, (may.untaken, may.decided)))
      (Decides-and _ _ (contains-decides (p, attempt) at.posted)
      (Decides-and _ _ (Decides-not _ (contains-decides (p, attempt) at.taken))
      (booleans_Decides applies (nat_eq attempt (attempt_of at.progress.made p)))))
  allowed-decides at (event.Restart number) =
      Decides-like _
      (λ h. record { numbered = h.0; some_struck = h.1 })
      (λ may. (may.numbered, may.some_struck))
      (Decides-and _ _ (Decides-eqb number (length at.progress.made))
      (Decides-not _ (none-decides (struck_next dependence faults at.progress))))
  allowed-decides at (event.Retire p) =
      Decides-like _
      (λ h. record { oldest = h.0; issued = h.1.0; applied = h.1.1.0; none_due = h.1.1.1.0; safe = h.1.1.1.1 })
      (λ may. (may.oldest, (may.issued, (may.applied, (may.none_due, may.safe)))))
      (Decides-and _ _ (Decides-eqb p at.retired)
      (Decides-and _ _ (Decides-ltb p at.progress.front)
      (Decides-and _ _ (true-decides (at.applied p))
      (Decides-and _ _ (none-decides (least_struck (is_due at.progress) faults))
      (Decides-or _ _ (rest-decides at p) (drained-decides at.progress))))))

  lawful_from-decides : (at : Stage) (events : List Event)
      → Decides (is_lawful_from dependence faults at events) (LawfulFrom dependence faults at events)
  lawful_from-decides at [] = (λ _. tt, λ _. refl)
  lawful_from-decides at (event ∷ rest) =
      Decides-and _ _ (allowed-decides at event) (lawful_from-decides (happens dependence faults at event) rest)

  pub lawful-decides : (events : List Event) → Decides (is_lawful dependence faults events) (Lawful dependence faults events)
  lawful-decides events = lawful_from-decides initial_stage events

  final-decides : (at : Progress) → Decides (is_final dependence faults at) (IsFinal dependence faults at)
  final-decides at =
      Decides-like _
      (λ h. record { passed = h.0; none_left = h.1 })
      (λ final. (final.passed, final.none_left))
      (Decides-and _ _ (Decides-eqb at.front dependence.count) (none-decides (struck_next dependence faults at)))

  pub complete-decides : (events : List Event) → Decides (is_complete dependence faults events) (Complete dependence faults events)
  complete-decides events =
      Decides-like _
      (λ h. record { lawful = h.0; final = h.1.0; retired = h.1.1 })
      (λ complete. (complete.lawful, (complete.final, complete.retired)))
      (Decides-and _ _ (lawful-decides events)
      (Decides-and _ _ (final-decides (stage dependence faults events).progress)
      (Decides-eqb (stage dependence faults events).retired dependence.count)))
