-- The lines of a journal have numbers of 32 bits.
use Rattle.std.proofs.Common.{◌≡◌, ℕ, zero, suc, ◌+◌, ◌<◌, ◌≤◌, ◌^◌, List, [], ◌∷◌, ◌++◌, length, get_or, Contains, Option, Some, None, refl, sym, subst, arith, append_assoc}
use Rattle.std.specs.Prelude.{flat_map, slice_get}
use Rattle.std.specs.List.{All}
use Rattle.std.proofs.lemmas.List.Elements.{All-nil, All-cons, All-append, All-push, All-contains, All-contains_itself}
use Rattle.std.proofs.lemmas.Option.{slice_get_within, get_or_from_slice_get}
use Rattle.gp_base.specs.declared.limits.TheConstants.{MOST_FAULTS}
use Rattle.gp_base.specs.declared.fault.Fault.{Fault}
use Rattle.gp_base.specs.declared.journal.Restart.{Restart}
use Rattle.gp_base.specs.declared.journal.Event.{Event}
use Rattle.gp_base.specs.declared.journal.Event.TheVariants as event
use Rattle.dependence.specs.meaning.Restarts.{Dependence, Progress, attempt_of, struck_next, restart_of, advance_by, progress, restarts}
use Rattle.dependence.specs.meaning.Journal.{Stage, initial_stage, Allowed, happens, LawfulFrom, Lawful, stage_from, stage}
use Rattle.dependence.specs.Standing.{KeepsClean, StageStands}
use Rattle.dependence.proofs.Counts.{few-attempts}
use Rattle.dependence.proofs.Journals.{LawfulFrom-front}
use Rattle.dependence.proofs.Standing.{initial-stands, stands-from}
use Rattle.dependence.proofs.Struck.{struck-live}
use Rattle.gp_audit.specs.declared.line.TraceLine.TheVariants as line
use Rattle.gp_audit.specs.LineTexts.{IsNarrowRestart, IsNarrowLine}
use Rattle.audit_calls.specs.TraceLaws.{IsNarrowFault}
use Rattle.audit_calls.specs.JournalLines.{restart_line, event_lines}

allowed-at : (dependence : Dependence) (faults : List Fault) (at : Stage) (done : List Event) (e : Event) (more : List Event)
    → LawfulFrom dependence faults at (done ++ e ∷ more) → Allowed dependence faults (stage_from dependence faults at done) e
allowed-at dependence faults at [] e more lawful = lawful.0
allowed-at dependence faults at (x ∷ done) e more lawful =
    allowed-at dependence faults (happens dependence faults at x) done e more lawful.1

member-there : (restarts : List Restart) (number : ℕ) (r : Restart) → slice_get restarts number ≡ Some r → Contains restarts r
member-there restarts number r e = (number, slice_get_within restarts number r e, get_or_from_slice_get restarts number r r e)

module _ (dependence : Dependence) (faults : List Fault) (clean : KeepsClean dependence faults) (wide : dependence.count < 2 ^ 32)
    (few : length faults ≤ MOST_FAULTS) (fit : All IsNarrowFault faults) where
  -- how far the restarts have come: the front is within the run, and each restart so far has numbers of 32 bits
  record Narrow (at : Progress) : Type 0 where
    front : at.front ≤ dependence.count
    made : All IsNarrowRestart at.made

  one-restart : (at : Progress) (p : ℕ) → at.front ≤ dependence.count → struck_next dependence faults at ≡ Some p
      → IsNarrowRestart (restart_of dependence at p)
  one-restart at p low e =
      let live = struck-live dependence faults at p e in
      let named = live.1 in
      let below = live.0 in
      let attempt = (All-contains IsNarrowFault faults named.0 fit named.1).attempt in
      let same = named.3 in
      record {
        front = omega arith;
        struck = omega arith;
        attempt = omega arith;
        redo =
            λ k d l. (let within = clean.conflicts.below p at.front (get_or (dependence.redo p at.front) k d)
            (All-contains_itself (dependence.redo p at.front) k d l) in omega arith);
      }

  step-narrow : (at : Progress) (o : Option ℕ) → struck_next dependence faults at ≡ o → Narrow at → Narrow (advance_by dependence at o)
  step-narrow at None e narrow = record { front = omega arith; made = narrow.made }
  step-narrow at (Some p) e narrow =
      record {
        front = narrow.front;
        made = All-push IsNarrowRestart at.made (restart_of dependence at p) narrow.made
            (one-restart at p narrow.front e);
      }

  all-narrow : (steps : ℕ) → Narrow (progress dependence faults steps)
  all-narrow zero = record { front = omega arith; made = All-nil IsNarrowRestart }
  all-narrow (suc steps) =
      let at = progress dependence faults steps in
      step-narrow at (struck_next dependence faults at) refl (all-narrow steps)

  -- all restarts have numbers of 32 bits
  pub restarts-narrow : All IsNarrowRestart (restarts dependence faults)
  restarts-narrow = (all-narrow (dependence.count + length faults)).made

  module _ (told : List Restart) (told_narrow : All IsNarrowRestart told) where
    module _ (done : List Event) (lawful : Lawful dependence faults done) where
      abbrev at : Stage
      at = stage dependence faults done

      stands : StageStands dependence faults at
      stands =
          stands-from dependence clean.conflicts faults clean.short clean.retired initial_stage done
          (initial-stands dependence faults) lawful

      attempts : (p : ℕ) → attempt_of at.progress.made p ≤ MOST_FAULTS
      attempts p = let most = (few-attempts dependence faults clean.struck done lawful).1 p in omega arith

      one-line : (o : Option Restart) → ((r : Restart) → o ≡ Some r → IsNarrowRestart r) → All IsNarrowLine (restart_line o)
      one-line None narrow = All-nil IsNarrowLine
      one-line (Some r) narrow = All-cons IsNarrowLine (line.Restart r) [] (narrow r refl) (All-nil IsNarrowLine)

      event-narrow : (e : Event) → Allowed dependence faults at e → All IsNarrowLine (event_lines told e)
      event-narrow (event.Issue p) may = All-cons IsNarrowLine (line.Issue p) [] (let left = may.left in omega arith) (All-nil IsNarrowLine)
      event-narrow (event.Post p a) may =
          let low = stands.front_low in let issued = may.issued in let few_attempts = attempts p in let present = may.present in
          let most : MOST_FAULTS ≡ 1000 = refl in
          All-cons IsNarrowLine (line.Post p a) [] (omega arith, omega arith) (All-nil IsNarrowLine)
      event-narrow (event.Take p a x) may =
          let low = stands.front_low in let posted = stands.posted_low p a may.posted in let few_attempts = attempts p in
          let most : MOST_FAULTS ≡ 1000 = refl in
          All-cons IsNarrowLine (line.Take p a x) [] (omega arith, omega arith) (All-nil IsNarrowLine)
      event-narrow (event.Restart number) may =
          one-line (slice_get told number) (λ r e. All-contains IsNarrowRestart told r told_narrow (member-there told number r e))
      event-narrow (event.Retire p) may =
          All-cons IsNarrowLine (line.Retire p) []
          (let low = stands.front_low in let issued = may.issued in omega arith) (All-nil IsNarrowLine)

    -- the lines of events that go on lawfully
    pub lines-narrow : (done more : List Event) → Lawful dependence faults (done ++ more) → All IsNarrowLine (flat_map (event_lines told) more)
    lines-narrow done [] lawful = All-nil IsNarrowLine
    lines-narrow done (e ∷ more) lawful =
        All-append IsNarrowLine (event_lines told e) (flat_map (event_lines told) more)
        (event-narrow done (LawfulFrom-front dependence faults initial_stage done (e ∷ more) lawful) e
        (allowed-at dependence faults initial_stage done e more lawful))
        (lines-narrow (done ++ e ∷ []) more (subst (Lawful dependence faults) (sym (append_assoc done (e ∷ []) more)) lawful))
