-- The steps of the restarts end, and each progress is a beginning of the whole. A step takes a fault, which its restart
-- uses up, or moves the front. So the faults that can still be taken and the fronts that are left become fewer with
-- each step, and after as many steps as there are of both nothing changes any more. Restarts are added at the end, each
-- at the present front, so that those so far are a beginning of all.
use Rattle.std.proofs.Common.{◌≡◌, ◌⊎◌, inl, inr, ℕ, zero, suc, ◌+◌, ◌-◌, ◌<◌, ◌≤◌, min, true, cond, List, [], ◌∷◌, ◌++◌, length, Option, Some, None, refl, sym, ap, subst, ◌∙◌, ◌≢◌, ◌↔◌, arith, All, slice_get, count_by, append_assoc}
use Rattle.std.proofs.lemmas.List.{append-nil, length-append}
use Rattle.std.proofs.lemmas.List.Elements.{All-cons, All-append}
use Rattle.std.proofs.Math.Nat.{add-zero, add-suc}
use Rattle.std.proofs.lemmas.Bool.{leb-true, le-leb, lt-leb, cases_lt, cases_eq}
use Rattle.std.proofs.lemmas.List.Sums.{count_by-le-length}
use Rattle.std.specs.Option.{IsSomeAnd}
use Rattle.gp_base.specs.declared.fault.Fault.{Fault}
use Rattle.gp_base.specs.declared.journal.Restart.{Restart}
use Rattle.dependence.specs.meaning.Restarts.{Dependence, IsFinal, Progress, redoes, attempt_of, begun_of, last_front, struck_next, restart_of, advance_by, advance, progress, restarts}
use Rattle.dependence.specs.Restarts.{RedoesStruck}
use Rattle.dependence.specs.Measure.{is_unused}
use Rattle.dependence.specs.Standing.{NamesAttempt}
use Rattle.dependence.proofs.DependentSets.{is_member-is}
use Rattle.dependence.proofs.Counting.{count-push, count-falls}
use Rattle.dependence.proofs.Struck.{struck-live}

pub attempt-push : (made : List Restart) (restart : Restart) (p : ℕ)
    → attempt_of (made ++ restart ∷ []) p ≡ attempt_of made p + (cond (redoes p restart) 1 0)
attempt-push made restart p = count-push (redoes p) restart made

-- one more restart raises the attempts of those that it redoes, and they begin at its front
last_front-push : (p begun : ℕ) (made : List Restart) (restart : Restart)
    → last_front p begun (made ++ restart ∷ []) ≡ cond (redoes p restart) restart.front (last_front p begun made)
last_front-push p begun [] restart = refl
last_front-push p begun (first ∷ later) restart = last_front-push p (cond (redoes p first) first.front begun) later restart

pub begun-push : (made : List Restart) (restart : Restart) (p : ℕ)
    → begun_of (made ++ restart ∷ []) p ≡ cond (redoes p restart) restart.front (begun_of made p)
begun-push made restart p = last_front-push p (p + 1) made restart

-- a restart uses up the attempt of the fault that it takes
restart-uses : (dependence : Dependence) → RedoesStruck dependence → (faults : List Fault) (at : Progress) (p : ℕ) → p < at.front
    → NamesAttempt faults p (attempt_of at.made p)
    → count_by (is_unused (at.made ++ restart_of dependence at p ∷ [])) faults < count_by (is_unused at.made) faults
restart-uses dependence held faults at p below named =
    count-falls (is_unused at.made) (is_unused after) named.0 weaker
    (le-leb _ _ (let same = ap (attempt_of at.made) named.2 in let names = named.3 in omega arith))
    (lt-leb _ _ (let same = ap (attempt_of after) named.2 in let names = named.3 in omega (arith, pushed))) faults named.1
  where
    after : List Restart
    after = at.made ++ restart_of dependence at p ∷ []

    pushed : attempt_of after p ≡ attempt_of at.made p + 1
    pushed =
        rw ((is_member-is p (dependence.redo p at.front)).1 (held p at.front below)) at
        (attempt-push at.made (restart_of dependence at p) p)

    weaker : (fault : Fault) → is_unused after fault ≡ true → is_unused at.made fault ≡ true
    weaker fault u =
        let l : attempt_of after fault.pos ≤ fault.attempt = leb-true _ _ u in
        let push = attempt-push at.made (restart_of dependence at p) fault.pos in
        le-leb _ _ (omega arith)

-- the member after these
next_seen : (made : List Restart) (restart : Restart) (rest : List Restart)
    → IsSomeAnd (slice_get (made ++ restart ∷ rest) (length made)) (λ next. next.front ≡ restart.front)
next_seen [] restart rest = refl
next_seen (first ∷ made) restart rest = next_seen made restart rest

-- where all members after these have later fronts, the next one hasn't this front
next_later : (made rest : List Restart) (front : ℕ) → All (λ restart. front < restart.front) rest
    → IsSomeAnd (slice_get (made ++ rest) (length made)) (λ next. next.front ≡ front) → ⊥
next_later [] [] front later next = next
next_later [] (restart ∷ rest) front later next = let l = later 0 restart (omega arith) in omega arith
next_later (first ∷ made) rest front later next = next_later made rest front later next

module _ (dependence : Dependence) (held : RedoesStruck dependence) (faults : List Fault) where
  -- the faults that can still be taken, and the fronts that are left
  abbrev left_to_do : Progress → ℕ
  left_to_do at = (dependence.count - at.front) + count_by (is_unused at.made) faults

  pub step-final : (at : Progress) → IsFinal dependence faults at → advance dependence faults at ≡ at
  step-final at final =
      rw final.none_left (let e : min (at.front + 1) dependence.count ≡ at.front = (let f = final.passed in omega arith) in
      λ i. record { front = e i; made = at.made })

  pub struck-falls-next : (at : Progress) (p : ℕ) → struck_next dependence faults at ≡ Some p
      → count_by (is_unused (at.made ++ restart_of dependence at p ∷ [])) faults < count_by (is_unused at.made) faults
  struck-falls-next at p e = let struck = struck-live dependence faults at p e in restart-uses dependence held faults at p struck.0 struck.1

  -- each step that is not the end leaves less to do
  step-falls : (at : Progress) → at.front ≤ dependence.count
      → IsFinal dependence faults at ⊎ (left_to_do (advance dependence faults at) < left_to_do at)
  step-falls at low = go (struck_next dependence faults at) refl
    where
      go : (o : Option ℕ) → struck_next dependence faults at ≡ o
          → IsFinal dependence faults at ⊎ (left_to_do (advance_by dependence at o) < left_to_do at)
      go (Some p) e = inr (let h = struck-falls-next at p e in omega arith)
      go None e =
          elim (cases_eq at.front dependence.count) [
            | inl f ↦ inl (record { passed = f; none_left = e })
            | inr ne ↦ inr (omega arith)
          ]

  front-low : (at : Progress) → at.front ≤ dependence.count → (advance dependence faults at).front ≤ dependence.count
  front-low at low = go (struck_next dependence faults at)
    where
      go : (o : Option ℕ) → (advance_by dependence at o).front ≤ dependence.count
      go (Some p) = low
      go None = omega arith

  progress-low : (k : ℕ) → (progress dependence faults k).front ≤ dependence.count
  progress-low zero = omega arith
  progress-low (suc k) = front-low (progress dependence faults k) (progress-low k)

  -- the end is reached
  ends : (k : ℕ) → IsFinal dependence faults (progress dependence faults k)
      ⊎ (left_to_do (progress dependence faults k) + k ≤ dependence.count + length faults)
  ends zero = inr (let h = count_by-le-length (is_unused []) faults in omega arith)
  ends (suc k) =
      elim (ends k) [
        | inl final ↦ inl (rw (step-final (progress dependence faults k) final) final)
        | inr le ↦
            elim (step-falls (progress dependence faults k) (progress-low k)) [
              | inl final ↦ inl (rw (step-final (progress dependence faults k) final) final)
              | inr less ↦ inr (omega arith)
            ]
      ]

  pub final-reached : IsFinal dependence faults (progress dependence faults (dependence.count + length faults))
  final-reached =
      elim (ends (dependence.count + length faults)) [
        | inl final ↦ final
        | inr le ↦
            elim (step-falls (progress dependence faults (dependence.count + length faults))
            (progress-low (dependence.count + length faults))) [
              | inl final ↦ final
              | inr less ↦ absurd (omega arith)
            ]
      ]

  -- from an end on, all stays as it is
  pub stays : (k j : ℕ) → IsFinal dependence faults (progress dependence faults k)
      → progress dependence faults (k + j) ≡ progress dependence faults k
  stays k zero final = rw add-zero refl
  stays k (suc j) final = rw add-suc (rw (stays k j final) (step-final (progress dependence faults k) final))

  -- restarts that are made at this front or later
  abbrev AllFrom : Progress → List Restart → Type 0
  AllFrom at rest = All (λ restart. at.front ≤ restart.front) rest

  none_from : (at : Progress) → AllFrom at []
  none_from at k d l = absurd (omega arith)

  step-begins : (at : Progress) → at.front ≤ dependence.count
      → (rest : List Restart) × ((advance dependence faults at).made ≡ at.made ++ rest) × AllFrom at rest
      × (at.front ≤ (advance dependence faults at).front)
  step-begins at low = go (struck_next dependence faults at)
    where
      go : (o : Option ℕ)
          → (rest : List Restart) × ((advance_by dependence at o).made ≡ at.made ++ rest) × AllFrom at rest
          × (at.front ≤ (advance_by dependence at o).front)
      go (Some p) = (
        restart_of dependence at p ∷ [],
        refl,
        All-cons (λ restart. at.front ≤ restart.front) (restart_of dependence at p) [] (omega arith) (none_from at),
        omega arith,
      )
      go None = ([], sym (append-nil at.made), none_from at, omega arith)

  -- each progress made a beginning of what later ones make, and what they add has its front or a later one
  pub made-begins : (k j : ℕ) → (rest : List Restart)
      × ((progress dependence faults (k + j)).made ≡ (progress dependence faults k).made ++ rest)
      × AllFrom (progress dependence faults k) rest × ((progress dependence faults k).front ≤ (progress dependence faults (k + j)).front)
  made-begins k zero =
      rw add-zero ([], sym (append-nil (progress dependence faults k).made), none_from (progress dependence faults k), omega arith)
  made-begins k (suc j) =
      let h = made-begins k j in
      let g = step-begins (progress dependence faults (k + j)) (progress-low (k + j)) in
      let rises : (progress dependence faults k).front ≤ (advance dependence faults (progress dependence faults (k + j))).front =
      omega (arith, h.3, g.3) in
      rw add-suc (
        h.0 ++ g.0,
        g.1 ∙ (ap (λ m. m ++ g.0) h.1 ∙ append_assoc (progress dependence faults k).made h.0 g.0),
        All-append (λ restart. (progress dependence faults k).front ≤ restart.front) h.0 g.0 h.2
            (λ i d l. let f = g.2 i d l in omega (arith, h.3)),
        rises,
      )

  -- what was made after k steps is a beginning of all restarts, and the others have its front or a later one
  pub made-first : (k : ℕ)
      → (rest : List Restart) × (restarts dependence faults ≡ (progress dependence faults k).made ++ rest)
      × AllFrom (progress dependence faults k) rest
  made-first k =
      elim (cases_lt k (dependence.count + length faults)) [
        | inl l ↦
            (let h = made-begins k ((dependence.count + length faults) - k) in
            let e : k + ((dependence.count + length faults) - k) ≡ dependence.count + length faults = omega arith in
            (h.0, ap (λ n. (progress dependence faults n).made) (sym e) ∙ h.1, h.2))
        | inr l ↦
            (let h = stays (dependence.count + length faults) (k - (dependence.count + length faults)) final-reached in
            let e : (dependence.count + length faults) + (k - (dependence.count + length faults)) ≡ k = omega arith in (
              [],
              ap (λ at. at.made) (sym h) ∙ (ap (λ n. (progress dependence faults n).made) e
                  ∙ sym (append-nil (progress dependence faults k).made)),
              none_from (progress dependence faults k),
            ))
      ]

  -- at an end all restarts are made
  pub made-all : (k : ℕ) → IsFinal dependence faults (progress dependence faults k)
      → (progress dependence faults k).made ≡ restarts dependence faults
  made-all k final =
      elim (cases_lt k (dependence.count + length faults)) [
        | inl l ↦
            (let e : k + ((dependence.count + length faults) - k) ≡ dependence.count + length faults = omega arith in
            ap (λ at. at.made) (sym (stays k ((dependence.count + length faults) - k) final))
            ∙ ap (λ n. (progress dependence faults n).made) e)
        | inr l ↦
            (let e : (dependence.count + length faults) + (k - (dependence.count + length faults)) ≡ k = omega arith in
            ap (λ n. (progress dependence faults n).made) (sym e)
            ∙ ap (λ at. at.made) (stays (dependence.count + length faults) (k - (dependence.count + length faults)) final-reached))
      ]

  -- the next of all restarts is the one whose fault is taken next
  pub made-next : (k p : ℕ) → struck_next dependence faults (progress dependence faults k) ≡ Some p
      → (rest : List Restart) × (restarts dependence faults
      ≡ (progress dependence faults k).made ++ restart_of dependence (progress dependence faults k) p ∷ rest)
  made-next k p e =
      let h = made-first (suc k) in (
        h.0,
        h.1 ∙ (ap (λ o. (advance_by dependence (progress dependence faults k) o).made ++ h.0) e
            ∙ append_assoc (progress dependence faults k).made (restart_of dependence (progress dependence faults k) p ∷ []) h.0),
      )

  -- a fault is taken next exactly where the next of all restarts has the present front
  pub struck-is : (k : ℕ) → (struck_next dependence faults (progress dependence faults k) ≢ None)
      ↔ IsSomeAnd (slice_get (restarts dependence faults) (length (progress dependence faults k).made))
      (λ restart. restart.front ≡ (progress dependence faults k).front)
  struck-is k = (λ some. forward (struck_next dependence faults at) refl some, backward)
    where
      at : Progress
      at = progress dependence faults k

      forward : (o : Option ℕ) → struck_next dependence faults at ≡ o → o ≢ None
          → IsSomeAnd (slice_get (restarts dependence faults) (length at.made)) (λ restart. restart.front ≡ at.front)
      forward None e some = absurd (some refl)
      forward (Some p) e some = let h = made-next k p e in rw h.1 (next_seen at.made (restart_of dependence at p) h.0)

      NextAmong : List Restart → Type 0
      NextAmong all = IsSomeAnd (slice_get all (length at.made)) (λ restart. restart.front ≡ at.front)

      backward : NextAmong (restarts dependence faults) → struck_next dependence faults at ≢ None
      backward next none =
          elim (cases_eq at.front dependence.count) [
            | inl passed ↦
                (let e = made-all k (record { passed = passed; none_left = none }) in
                next_later at.made [] at.front (λ i d l. absurd (omega arith)) (subst NextAmong (sym e ∙ sym (append-nil at.made)) next))
            | inr left ↦
                (let low = progress-low k in
                let h = made-first (suc k) in
                let stepped : advance dependence faults at ≡ record { front = min (at.front + 1) dependence.count; made = at.made } =
                ap (advance_by dependence at) none in
                let front = ap (λ after. after.front) stepped in
                next_later at.made h.0 at.front
                (λ i d l. let f = h.2 i d l in omega (arith, front, left))
                (subst NextAmong (h.1 ∙ ap (λ after. after.made ++ h.0) stepped) next))
          ]

  -- each restart used up a fault
  few : (k : ℕ) → length (progress dependence faults k).made
      + count_by (is_unused (progress dependence faults k).made) faults ≤ length faults
  few zero = let h = count_by-le-length (is_unused []) faults in omega arith
  few (suc k) = go (few k) (struck_next dependence faults (progress dependence faults k)) refl
    where
      at : Progress
      at = progress dependence faults k

      go : (length at.made + count_by (is_unused at.made) faults ≤ length faults) → (o : Option ℕ) → struck_next dependence faults at ≡ o
          → length (advance_by dependence at o).made + count_by (is_unused (advance_by dependence at o).made) faults ≤ length faults
      go le (Some p) e = let h = struck-falls-next at p e in let n = length-append at.made (restart_of dependence at p ∷ []) in omega arith
      go le None e = le

  pub few-restarts : length (restarts dependence faults) ≤ length faults
  few-restarts = let h = few (dependence.count + length faults) in omega arith
