-- The restarts of a lawful journal have their numbers in order.
use Rattle.std.proofs.Common.{◌≡◌, ◌≢◌, ℕ, zero, suc, ◌+◌, ◌≤◌, ◌<◌, List, [], ◌∷◌, ◌++◌, length, length-append, count_by, drop, get_or, Option, Some, None, refl, sym, ap, subst, ◌∙◌, arith}
use Rattle.std.specs.Prelude.{flat_map, slice_get}
use Rattle.std.proofs.lemmas.List.{drop_more, drop_all}
use Rattle.std.proofs.lemmas.Option.{get_or_from_slice_get}
use Rattle.task_ast.proofs.Counting.{count-cons}
use Rattle.gp_base.specs.declared.fault.Fault.{Fault}
use Rattle.gp_base.specs.declared.journal.Restart.{Restart}
use Rattle.gp_base.specs.declared.journal.Event.{Event}
use Rattle.gp_base.specs.declared.journal.Event.TheVariants as event
use Rattle.dependence.specs.meaning.Restarts.{Dependence, struck_next, restart_of, restarts as all_restarts}
use Rattle.dependence.specs.meaning.Journal.{Stage, initial_stage, Lawful, LawfulFrom, happens, restarted}
use Rattle.dependence.specs.meaning.Counts.{is_restart}
use Rattle.gp_audit.specs.meaning.Verdicts.{LawfulLines}
use Rattle.gp_audit.specs.ToldLines.{events_from, events_of, restarts_told}
use Rattle.gp_audit.proofs.ToldVerdicts.{lawful-lines}
use Rattle.audit_calls.specs.JournalLines.{restart_line, event_lines}

past-none : {A : Type 0} (xs : List A) (k : ℕ) → slice_get xs k ≡ None → length xs ≤ k
past-none [] k e = omega arith
past-none (x ∷ xs) zero e = absurd (cc e)
past-none (x ∷ xs) (suc k) e = let l = past-none xs k e in omega arith

module _ (dependence : Dependence) (faults : List Fault) (restarts : List Restart) where
  -- what the lines of events tell from a number of restarts on
  record Tells (made : ℕ) (events : List Event) : Type 0 where
    events_are : events_from made (flat_map (event_lines restarts) events) ≡ events
    told_are : restarts_told (flat_map (event_lines restarts) events) ≡ drop made restarts

  one_more : (at : Stage) (o : Option ℕ) → o ≢ None → length (restarted dependence at o).progress.made ≡ length at.progress.made + 1
  one_more at None some = absurd (some refl)
  one_more at (Some p) some = length-append at.progress.made (restart_of dependence at.progress p ∷ [])

  tells : (at : Stage) (made : ℕ) (events : List Event) → made ≡ length at.progress.made → LawfulFrom dependence faults at events
      → length restarts ≡ made + count_by is_restart events → Tells made events
  tells at made [] m lawful n = record { events_are = refl; told_are = sym (drop_all made restarts (omega arith)) }
  tells at made (event.Issue p ∷ events) m lawful n =
      let rest =
      tells (happens dependence faults at (event.Issue p)) made events m lawful.1
      (let c = count-cons is_restart (event.Issue p) events in omega arith) in
      record { events_are = ap (λ es. event.Issue p ∷ es) rest.events_are; told_are = rest.told_are }
  tells at made (event.Post p a ∷ events) m lawful n =
      let rest =
      tells (happens dependence faults at (event.Post p a)) made events m lawful.1
      (let c = count-cons is_restart (event.Post p a) events in omega arith) in
      record { events_are = ap (λ es. event.Post p a ∷ es) rest.events_are; told_are = rest.told_are }
  tells at made (event.Take p a x ∷ events) m lawful n =
      let rest =
      tells (happens dependence faults at (event.Take p a x)) made events m lawful.1
      (let c = count-cons is_restart (event.Take p a x) events in omega arith) in
      record { events_are = ap (λ es. event.Take p a x ∷ es) rest.events_are; told_are = rest.told_are }
  tells at made (event.Retire p ∷ events) m lawful n =
      let rest =
      tells (happens dependence faults at (event.Retire p)) made events m lawful.1
      (let c = count-cons is_restart (event.Retire p) events in omega arith) in
      record { events_are = ap (λ es. event.Retire p ∷ es) rest.events_are; told_are = rest.told_are }
  tells at made (event.Restart number ∷ events) m lawful n =
      let c = count-cons is_restart (event.Restart number) events in
      let long : made < length restarts = omega arith in
      let rest = tells (happens dependence faults at (event.Restart number)) (suc made) events
      (let one = one_more at (struck_next dependence faults at.progress) lawful.0.some_struck in omega arith) lawful.1 (omega arith) in
      let same : number ≡ made = (let f = lawful.0.numbered in omega arith) in
      there number same (slice_get restarts number) refl rest long
    where
      there : (k : ℕ) → k ≡ made → (o : Option Restart) → slice_get restarts k ≡ o → Tells (suc made) events → made < length restarts
          → Tells made (event.Restart k ∷ events)
      there k same None e rest long = absurd (let past = past-none restarts k e in omega arith)
      there k same (Some r) e rest long =
          let later = flat_map (event_lines restarts) events in
          let here : get_or restarts made r ≡ r = subst (λ i. get_or restarts i r ≡ r) same (get_or_from_slice_get restarts k r r e) in
          let next : suc made ≡ made + 1 = omega arith in
          record {
            events_are = subst (λ o. events_from made (restart_line o ++ later) ≡ event.Restart k ∷ events) (sym e)
                (ap (λ es. event.Restart made ∷ es) rest.events_are ∙ ap (λ i. event.Restart i ∷ events) (sym same));
            told_are = subst (λ o. restarts_told (restart_line o ++ later) ≡ drop made restarts) (sym e)
                (ap (λ rs. r ∷ rs) rest.told_are ∙ (ap (λ i. r ∷ drop i restarts) next
                ∙ (ap (λ x. x ∷ drop (made + 1) restarts) (sym here) ∙ sym (drop_more restarts made r long))));
          }

pub lines-lawful : (dependence : Dependence) (faults : List Fault) (restarts : List Restart) (events : List Event)
    → Lawful dependence faults events
    → (rest : List Restart) × (all_restarts dependence faults ≡ restarts ++ rest) → length restarts ≡ count_by is_restart events
    → (events_of (flat_map (event_lines restarts) events) ≡ events) × LawfulLines dependence faults (flat_map (event_lines restarts) events)
lines-lawful dependence faults restarts events lawful first n =
    let told = tells dependence faults restarts initial_stage 0 events refl lawful (omega arith) in (
      told.events_are,
      lawful-lines dependence faults (flat_map (event_lines restarts) events) (record {
        lawful = subst (Lawful dependence faults) (sym told.events_are) lawful;
        first = (first.0, first.1 ∙ ap (λ rs. rs ++ first.0) (sym told.told_are));
      }),
    )
