-- What has retired was posted and taken at its present attempt: both were so when it retired, and no restart after that redoes it.
use Rattle.std.proofs.Common.{◌≡◌, inl, inr, ℕ, ◌<◌, ◌≤◌, false, List, [], ◌∷◌, ◌++◌, length, Contains, Option, Some, None, refl, sym, ap, subst, ◌∙◌, arith, append_assoc}
use Rattle.std.proofs.lemmas.Bool.{false_from_ne_true, cases_eq}
use Rattle.std.proofs.lemmas.List.{append-nil}
use Rattle.std.proofs.lemmas.List.Elements.{Contains-append_left}
use Rattle.gp_base.specs.declared.fault.Fault.{Fault}
use Rattle.gp_base.specs.declared.journal.Event.{Event}
use Rattle.gp_base.specs.declared.journal.Event.TheVariants as event
use Rattle.task_ast.specs.meaning.Table.{numbers}
use Rattle.task_ast.proofs.Layouts.{length-numbers, get-numbers}
use Rattle.dependence.specs.meaning.Dependents.{is_member}
use Rattle.dependence.specs.meaning.Restarts.{Dependence, attempt_of, struck_next, restart_of}
use Rattle.dependence.specs.meaning.Journal.{Stage, initial_stage, Allowed, happens, restarted, LawfulFrom, Lawful, stage_from, stage}
use Rattle.dependence.specs.Counts.{retirements, posts, takes}
use Rattle.dependence.specs.Standing.{present, StageStands, KeepsRetired, KeepsClean}
use Rattle.dependence.proofs.Counts.{counted, retire-in-order}
use Rattle.dependence.proofs.DependentSets.{is_member-is}
use Rattle.dependence.proofs.RestartEnds.{attempt-push}
use Rattle.dependence.proofs.Standing.{happens-stands, initial-stands}

module _ (dependence : Dependence) (faults : List Fault) where
  kept-pairs : (at : Stage) (o : Option ℕ) → ((restarted dependence at o).posted ≡ at.posted) × ((restarted dependence at o).taken ≡ at.taken)
  kept-pairs at None = (refl, refl)
  kept-pairs at (Some p) = (refl, refl)

  -- the pairs that a stage holds are those of its events
  all-posted : (at : Stage) (events : List Event) → (stage_from dependence faults at events).posted ≡ at.posted ++ posts events
  all-posted at [] = sym (append-nil at.posted)
  all-posted at (event.Issue p ∷ rest) = all-posted (happens dependence faults at (event.Issue p)) rest
  all-posted at (event.Post p attempt ∷ rest) =
      all-posted (happens dependence faults at (event.Post p attempt)) rest ∙ append_assoc at.posted ((p, attempt) ∷ []) (posts rest)
  all-posted at (event.Take p attempt applies ∷ rest) = all-posted (happens dependence faults at (event.Take p attempt applies)) rest
  all-posted at (event.Restart number ∷ rest) =
      all-posted (happens dependence faults at (event.Restart number)) rest
      ∙ ap (λ pairs. pairs ++ posts rest) (kept-pairs at (struck_next dependence faults at.progress)).0
  all-posted at (event.Retire p ∷ rest) = all-posted (happens dependence faults at (event.Retire p)) rest

  all-taken : (at : Stage) (events : List Event) → (stage_from dependence faults at events).taken ≡ at.taken ++ takes events
  all-taken at [] = sym (append-nil at.taken)
  all-taken at (event.Issue p ∷ rest) = all-taken (happens dependence faults at (event.Issue p)) rest
  all-taken at (event.Post p attempt ∷ rest) = all-taken (happens dependence faults at (event.Post p attempt)) rest
  all-taken at (event.Take p attempt applies ∷ rest) =
      all-taken (happens dependence faults at (event.Take p attempt applies)) rest ∙ append_assoc at.taken ((p, attempt) ∷ []) (takes rest)
  all-taken at (event.Restart number ∷ rest) =
      all-taken (happens dependence faults at (event.Restart number)) rest
      ∙ ap (λ pairs. pairs ++ takes rest) (kept-pairs at (struck_next dependence faults at.progress)).1
  all-taken at (event.Retire p ∷ rest) = all-taken (happens dependence faults at (event.Retire p)) rest

  -- what has retired was posted and taken at its present attempt
  abbrev Ran : Stage → Type 0
  Ran at = (p : ℕ) → p < at.retired → Contains at.posted (p, present at p) × Contains at.taken (p, present at p)

  ran-restarted : (at : Stage) (o : Option ℕ) → struck_next dependence faults at.progress ≡ o → KeepsRetired dependence faults at → Ran at
      → Ran (restarted dependence at o)
  ran-restarted at None e keeps ran p l = ran p l
  ran-restarted at (Some struck) e keeps ran p l = rw kept (ran p l)
    where
      late : is_member p (dependence.redo struck at.progress.front) ≡ false
      late =
          false_from_ne_true (is_member p (dependence.redo struck at.progress.front))
          (λ t. keeps struck p e l ((is_member-is p (dependence.redo struck at.progress.front)).0 t))

      kept : present (restarted dependence at (Some struck)) p ≡ present at p
      kept = let h = rw late at (attempt-push at.progress.made (restart_of dependence at.progress struck) p) in omega arith

  ran-happens : (at : Stage) (e : Event) → KeepsRetired dependence faults at → StageStands dependence faults at
      → Allowed dependence faults at e → Ran at → Ran (happens dependence faults at e)
  ran-happens at (event.Issue p) keeps stands allowed ran = ran
  ran-happens at (event.Post p attempt) keeps stands allowed ran =
      λ q l. let h = ran q l in (Contains-append_left at.posted ((p, attempt) ∷ []) (q, present at q) h.0, h.1)
  ran-happens at (event.Take p attempt applies) keeps stands allowed ran =
      λ q l. let h = ran q l in (h.0, Contains-append_left at.taken ((p, attempt) ∷ []) (q, present at q) h.1)
  ran-happens at (event.Restart number) keeps stands allowed ran =
      ran-restarted at (struck_next dependence faults at.progress) refl keeps ran
  ran-happens at (event.Retire p) keeps stands allowed ran =
      λ q l. let oldest = allowed.oldest in
      elim (cases_eq q p) [
        | inl same ↦ subst (λ r. Contains at.posted (r, present at r) × Contains at.taken (r, present at r)) (sym same) (here (omega arith))
        | inr other ↦ ran q (omega arith)
      ]
    where
      here : at.retired ≤ p → Contains at.posted (p, present at p) × Contains at.taken (p, present at p)
      here low =
          let posted = stands.applied_posted p low allowed.applied in
          (posted, stands.applied_taken p allowed.applied posted)

  -- where what holds between two events says that no restart redoes what has retired
  module _ (Holds : Stage → Type 0) (initial : Holds initial_stage) (stands : (at : Stage) → Holds at → StageStands dependence faults at)
      (keeps : (at : Stage) → Holds at → KeepsRetired dependence faults at)
      (then : (at : Stage) (e : Event) → Holds at → Allowed dependence faults at e → Holds (happens dependence faults at e)) where
    ran-from : (at : Stage) (events : List Event) → Holds at → LawfulFrom dependence faults at events → Ran at
        → Ran (stage_from dependence faults at events)
    ran-from at [] holds lawful ran = ran
    ran-from at (e ∷ rest) holds lawful ran =
        ran-from (happens dependence faults at e) rest (then at e holds lawful.0) lawful.1
        (ran-happens at e (keeps at holds) (stands at holds) lawful.0 ran)

    pub ran-where : (events : List Event) (p : ℕ) → Lawful dependence faults events → Contains (retirements events) p
        → Contains (posts events) (p, attempt_of (stage dependence faults events).progress.made p)
        × Contains (takes events) (p, attempt_of (stage dependence faults events).progress.made p)
    ran-where events p lawful retired =
        let at = stage dependence faults events in
        let held = ran-from initial_stage events initial lawful (λ q l. absurd (omega arith)) p below in (
          subst (λ pairs. Contains pairs (p, present at p)) (all-posted initial_stage events) held.0,
          subst (λ pairs. Contains pairs (p, present at p)) (all-taken initial_stage events) held.1,
        )
      where
        count : ℕ
        count = length (retirements events)

        listed : Contains (numbers 0 count) p
        listed = subst (λ list. Contains list p) (retire-in-order dependence faults events lawful) retired

        below : p < (stage dependence faults events).retired
        below =
            let n = length-numbers 0 count in
            let l = listed.1 in
            let low : listed.0 < count = omega arith in
            let same = get-numbers 0 count listed.0 p low in
            let h = (counted dependence faults initial_stage events lawful).retired_is in
            let k = listed.2 in omega arith

  pub ran : KeepsClean dependence faults → (events : List Event) (p : ℕ) → Lawful dependence faults events
      → Contains (retirements events) p
      → Contains (posts events) (p, attempt_of (stage dependence faults events).progress.made p)
      × Contains (takes events) (p, attempt_of (stage dependence faults events).progress.made p)
  ran clean =
      ran-where (StageStands dependence faults) (initial-stands dependence faults) (λ at stands. stands) clean.retired
      (λ at e stands. happens-stands dependence clean.conflicts faults clean.short at e (clean.retired at stands) stands)
