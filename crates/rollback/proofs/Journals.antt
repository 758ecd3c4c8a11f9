-- The restarts of journals by blocks.
use Rattle.std.proofs.Common.{◌≡◌, ◌≢◌, ◌↔◌, ℕ, suc, ◌+◌, min, Bool, List, [], ◌∷◌, ◌++◌, length, slice_get, Option, Some, None, refl, sym, ap, subst, ◌∙◌, arith}
use Rattle.std.specs.Option.{IsSomeAnd}
use Rattle.std.proofs.lemmas.Option.{slice_get_past}
use Rattle.gp_base.specs.declared.fault.Fault.{Fault}
use Rattle.gp_base.specs.declared.journal.Restart.{Restart}
use Rattle.gp_base.specs.declared.journal.Event.{Event}
use Rattle.gp_base.specs.declared.journal.Event.TheVariants as event
use Rattle.dependence.specs.meaning.Restarts.{Dependence, IsFinal, Progress, struck_next, advance, advance_by, progress}
use Rattle.dependence.specs.meaning.Journal.{Stage, initial_stage, Allowed, LawfulFrom, Lawful, Complete, happens, restarted, stage_from, stage}
use Rattle.dependence.specs.Counts.{HasAll}
use Rattle.dependence.specs.Standing.{AreShort}
use Rattle.dependence.proofs.Counts.{counted}
use Rattle.dependence.proofs.Standing.{issue-passes}
use Rattle.dependence.proofs.RestartEnds.{made-first, made-all, struck-is}
use Rattle.rollback.specs.meaning.Cuts.{rolling}
use Rattle.rollback.specs.Cuts.{SettlesCut, rollbacks}
use Rattle.rollback.specs.Standing.{BlocksStand}
use Rattle.rollback.proofs.Backs.{rolls-struck}
use Rattle.rollback.proofs.Standing.{initial-blocks, happens-blocks}

module _ (cuts : ℕ → Bool) (dependence : Dependence) (faults : List Fault) where
  abbrev rolled : Dependence
  rolled = rolling cuts dependence

  -- the progress is one that the definition of the rollbacks comes to
  abbrev Reached : Progress → Type 0
  Reached at = (k : ℕ) × (at ≡ progress rolled faults k)

  reached-happens : (at : Stage) (e : Event) → BlocksStand cuts dependence faults at → Allowed (rolling cuts dependence) faults at e
      → Reached at.progress → Reached (happens rolled faults at e).progress
  reached-happens at (event.Issue p) blocks may reached = (suc reached.0, issued ∙ ap (advance rolled faults) reached.1)
    where
      issued : record { front = at.progress.front + 1; made = at.progress.made } ≡ advance rolled faults at.progress
      issued =
          let same = may.next in
          let left = may.left in
          let e : at.progress.front + 1 ≡ min (at.progress.front + 1) dependence.count = omega arith in
          rw (issue-passes rolled faults at p blocks.stands may) (λ i. record { front = e i; made = at.progress.made })
  reached-happens at (event.Post p attempt) blocks may reached = reached
  reached-happens at (event.Take p attempt applies) blocks may reached = reached
  reached-happens at (event.Restart number) blocks may reached = go (struck_next rolled faults at.progress) refl
    where
      go : (o : Option ℕ) → struck_next rolled faults at.progress ≡ o → Reached (restarted rolled at o).progress
      go None e = absurd (may.some_struck e)
      go (Some p) e = (suc reached.0, ap (advance_by rolled at.progress) (sym e) ∙ ap (advance rolled faults) reached.1)
  reached-happens at (event.Retire p) blocks may reached = reached

  module _ (settled : SettlesCut cuts dependence) (short : AreShort faults) where
    reached-from : (at : Stage) (events : List Event) → BlocksStand cuts dependence faults at
        → LawfulFrom (rolling cuts dependence) faults at events → Reached at.progress → Reached (stage_from rolled faults at events).progress
    reached-from at [] blocks lawful reached = reached
    reached-from at (e ∷ rest) blocks lawful reached =
        reached-from (happens rolled faults at e) rest
        (happens-blocks cuts dependence faults settled short at e blocks lawful.0) lawful.1
        (reached-happens at e blocks lawful.0 reached)

    reached : (events : List Event) → Lawful (rolling cuts dependence) faults events → Reached (stage rolled faults events).progress
    reached events lawful = reached-from initial_stage events (initial-blocks cuts dependence faults) lawful (0, refl)

    -- the restarts of a lawful journal are the first of all rollbacks
    pub rollbacks-first : (events : List Event) → Lawful (rolling cuts dependence) faults events
        → (rest : List Restart) × (rollbacks cuts dependence faults ≡ (stage rolled faults events).progress.made ++ rest)
    rollbacks-first events lawful =
        let r = reached events lawful in
        let h = made-first rolled (rolls-struck cuts dependence) faults r.0 in
        (h.0, h.1 ∙ ap (λ at. at.made ++ h.0) (sym r.1))

    -- one may come next exactly where the next of all rollbacks has the present front
    pub rollbacks-next : (events : List Event) → Lawful (rolling cuts dependence) faults events
        → (struck_next rolled faults (stage rolled faults events).progress ≢ None)
        ↔ IsSomeAnd (slice_get (rollbacks cuts dependence faults) (length (stage rolled faults events).progress.made))
        (λ restart. restart.front ≡ (stage rolled faults events).progress.front)
    rollbacks-next events lawful =
        let r = reached events lawful in
        subst
        (λ at. (struck_next rolled faults at ≢ None)
        ↔ IsSomeAnd (slice_get (rollbacks cuts dependence faults) (length at.made)) (λ restart. restart.front ≡ at.front))
        (sym r.1) (struck-is rolled (rolls-struck cuts dependence) faults r.0)

    -- a complete journal has all rollbacks
    pub rollbacks-all : (events : List Event) → Complete (rolling cuts dependence) faults events
        → (stage rolled faults events).progress.made ≡ rollbacks cuts dependence faults
    rollbacks-all events complete =
        let r = reached events complete.lawful in
        ap (λ at. at.made) r.1
        ∙ made-all rolled (rolls-struck cuts dependence) faults r.0 (subst (IsFinal rolled faults) r.1 complete.final)

    -- and an issue and a retirement for each position
    pub complete-has_all : (events : List Event) → Lawful (rolling cuts dependence) faults events
        → Complete (rolling cuts dependence) faults events ↔ HasAll rolled faults events
    complete-has_all events lawful = (forward, backward)
      where
        at : Stage
        at = stage rolled faults events

        forward : Complete (rolling cuts dependence) faults events → HasAll rolled faults events
        forward complete =
            let h = counted rolled faults initial_stage events lawful in
            let f = h.front_is in
            let m = h.made_is in
            let r = h.retired_is in
            let passed = complete.final.passed in
            let retired = complete.retired in
            let made = ap length (rollbacks-all events complete) in
            record { lawful = lawful; issues = omega arith; restarts = omega arith; retirements = omega arith }

        none_left : length at.progress.made ≡ length (rollbacks cuts dependence faults) → (o : Option ℕ)
            → struck_next rolled faults at.progress ≡ o → o ≡ None
        none_left all None e = refl
        none_left all (Some p) e =
            absurd (subst (λ next. IsSomeAnd next (λ (restart : Restart). restart.front ≡ at.progress.front))
            (slice_get_past (rollbacks cuts dependence faults) (length at.progress.made) (omega arith))
            ((rollbacks-next events lawful).0 (λ none. cc (sym e ∙ none))))

        backward : HasAll rolled faults events → Complete (rolling cuts dependence) faults events
        backward has =
            let h = counted rolled faults initial_stage events lawful in
            let f = h.front_is in
            let m = h.made_is in
            let r = h.retired_is in
            let issues = has.issues in
            let all = has.restarts in
            let retired = has.retirements in
            record {
              lawful = lawful;
              final = record { passed = omega arith; none_left = none_left (omega arith) (struck_next rolled faults at.progress) refl };
              retired = omega arith;
            }
