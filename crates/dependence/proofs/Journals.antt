-- The laws of lawful journals.
use Rattle.std.proofs.Common.{◌≡◌, ◌≢◌, ◌↔◌, length, slice_get, ℕ, suc, ◌+◌, ◌<◌, min, List, [], ◌∷◌, ◌++◌, Option, Some, None, refl, sym, ap, subst, ◌∙◌, arith}
use Rattle.std.specs.Option.{IsSomeAnd}
use Rattle.gp_base.specs.declared.fault.Fault.{Fault}
use Rattle.gp_base.specs.declared.journal.Restart.{Restart}
use Rattle.gp_base.specs.declared.journal.Event.{Event}
use Rattle.gp_base.specs.declared.journal.Event.TheVariants as event
use Rattle.dependence.specs.meaning.Restarts.{Dependence, IsFinal, Progress, struck_next, advance, advance_by, progress, restarts}
use Rattle.dependence.specs.meaning.Journal.{Stage, initial_stage, Allowed, happens, restarted, LawfulFrom, Lawful, stage_from, stage, Complete}
use Rattle.dependence.specs.Standing.{StageStands, KeepsClean}
use Rattle.dependence.proofs.Standing.{initial-stands, happens-stands, issue-passes}
use Rattle.dependence.proofs.RestartEnds.{made-first, made-all, struck-is}

module _ (dependence : Dependence) (faults : List Fault) where
  -- a beginning of a lawful list is lawful
  pub LawfulFrom-front : (at : Stage) (events rest : List Event) → LawfulFrom dependence faults at (events ++ rest)
      → LawfulFrom dependence faults at events
  LawfulFrom-front at [] rest lawful = tt
  LawfulFrom-front at (event ∷ events) rest lawful = (lawful.0, LawfulFrom-front (happens dependence faults at event) events rest lawful.1)

  -- an event that is allowed at the stage that was reached goes on lawfully
  pub LawfulFrom-push : (at : Stage) (events : List Event) (event : Event) → LawfulFrom dependence faults at events
      → Allowed dependence faults (stage_from dependence faults at events) event → LawfulFrom dependence faults at (events ++ event ∷ [])
  LawfulFrom-push at [] event lawful allowed = (allowed, tt)
  LawfulFrom-push at (first ∷ events) event lawful allowed =
      (lawful.0, LawfulFrom-push (happens dependence faults at first) events event lawful.1 allowed)

  pub stage_from-push : (at : Stage) (events : List Event) (event : Event)
      → stage_from dependence faults at (events ++ event ∷ []) ≡ happens dependence faults (stage_from dependence faults at events) event
  stage_from-push at [] event = refl
  stage_from-push at (first ∷ events) event = stage_from-push (happens dependence faults at first) events event

  -- the progress is one that the definition of the restarts comes to
  abbrev Reached : Progress → Type 0
  Reached at = (k : ℕ) × (at ≡ progress dependence faults k)

  Reached-happens : (at : Stage) (event : Event) → StageStands dependence faults at → Allowed dependence faults at event
      → Reached at.progress → Reached (happens dependence faults at event).progress
  Reached-happens at (event.Issue p) stands allowed reached = (suc reached.0, issued ∙ ap (advance dependence faults) reached.1)
    where
      below : at.progress.front < dependence.count
      below = let same = allowed.next in let left = allowed.left in omega arith

      none : struck_next dependence faults at.progress ≡ None
      none = issue-passes dependence faults at p stands allowed

      issued : record { front = at.progress.front + 1; made = at.progress.made } ≡ advance dependence faults at.progress
      issued = let e : at.progress.front + 1 ≡ min (at.progress.front + 1) dependence.count = omega (arith, below) in
          rw none (λ i. record { front = e i; made = at.progress.made })
  Reached-happens at (event.Post p attempt) stands allowed reached = reached
  Reached-happens at (event.Take p attempt applies) stands allowed reached = reached
  Reached-happens at (event.Restart number) stands allowed reached = go (struck_next dependence faults at.progress) refl
    where
      go : (o : Option ℕ) → struck_next dependence faults at.progress ≡ o → Reached (restarted dependence at o).progress
      go None e = absurd (allowed.some_struck e)
      go (Some p) e = (suc reached.0, ap (advance_by dependence at.progress) (sym e) ∙ ap (advance dependence faults) reached.1)
  Reached-happens at (event.Retire p) stands allowed reached = reached

  module _ (clean : KeepsClean dependence faults) where
    Reached-stage : (at : Stage) (events : List Event) → StageStands dependence faults at → LawfulFrom dependence faults at events
        → Reached at.progress
        → Reached (stage_from dependence faults at events).progress
    Reached-stage at [] stands lawful reached = reached
    Reached-stage at (event ∷ rest) stands lawful reached =
        Reached-stage (happens dependence faults at event) rest
        (happens-stands dependence clean.conflicts faults clean.short at event (clean.retired at stands) stands lawful.0) lawful.1
        (Reached-happens at event stands lawful.0 reached)

    reached-stage : (events : List Event) → Lawful dependence faults events → Reached (stage dependence faults events).progress
    reached-stage events lawful = Reached-stage initial_stage events (initial-stands dependence faults) lawful (0, refl)

    -- the restarts of a lawful list are the first of all restarts
    pub restarts-first : (events : List Event) → Lawful dependence faults events
        → (rest : List Restart) × (restarts dependence faults ≡ (stage dependence faults events).progress.made ++ rest)
    restarts-first events lawful =
        let r = reached-stage events lawful in
        let h = made-first dependence clean.struck faults r.0 in
        (h.0, h.1 ∙ ap (λ at. at.made ++ h.0) (sym r.1))

    -- a restart may come next exactly where the next of all restarts has the present front
    pub restarts-next : (events : List Event) → Lawful dependence faults events
        → (struck_next dependence faults (stage dependence faults events).progress ≢ None)
        ↔ IsSomeAnd (slice_get (restarts dependence faults) (length (stage dependence faults events).progress.made))
        (λ restart. restart.front ≡ (stage dependence faults events).progress.front)
    restarts-next events lawful =
        let r = reached-stage events lawful in
        subst
        (λ at. (struck_next dependence faults at ≢ None)
        ↔ IsSomeAnd (slice_get (restarts dependence faults) (length at.made)) (λ restart. restart.front ≡ at.front))
        (sym r.1) (struck-is dependence clean.struck faults r.0)

    -- a complete list has all restarts
    pub restarts-all : (events : List Event) → Complete dependence faults events
        → (stage dependence faults events).progress.made ≡ restarts dependence faults
    restarts-all events complete =
        let r = reached-stage events complete.lawful in
        ap (λ at. at.made) r.1 ∙ made-all dependence clean.struck faults r.0 (subst (IsFinal dependence faults) r.1 complete.final)
