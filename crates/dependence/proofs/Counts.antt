-- What a lawful list of events holds: each kind as often as its stage says, each pair once. Each fact is shown along
-- the events from any stage: what the stage holds is carried through each event that is allowed. An event is allowed
-- for a pair that was not posted (or not taken), and for the next position that is to retire, so that no pair comes
-- twice and positions retire in order.
use Rattle.std.proofs.Common.{◌≡◌, ◌↔◌, ◌≢◌, ℕ, suc, ◌+◌, ◌≤◌, true, List, [], ◌∷◌, ◌++◌, length, take, Option, Some, None, refl, sym, ap, subst, ◌∙◌, arith, slice_get, count_by, append_assoc}
use Rattle.std.specs.Cmp.{IsEquivalence, decided}
use Rattle.std.specs.List.{IsDistinct, list_any}
use Rattle.std.specs.Option.{IsSomeAnd}
use Rattle.std.proofs.lemmas.Bool.{false_from_ne_true}
use Rattle.std.proofs.lemmas.List.{append-nil, length-append}
use Rattle.std.proofs.lemmas.List.Sums.{count_by-le-length}
use Rattle.std.proofs.lemmas.Map.Keys.{IsDistinct-push}
use Rattle.std.proofs.lemmas.Option.{slice_get_past}
use Rattle.gp_base.specs.declared.fault.Fault.{Fault}
use Rattle.gp_base.specs.declared.journal.Event.{Event}
use Rattle.gp_base.specs.declared.journal.Event.TheVariants as event
use Rattle.gp_base.specs.declared.journal.Restart.{Restart}
use Rattle.task_ast.specs.meaning.Table.{numbers}
use Rattle.dependence.specs.meaning.Restarts.{Dependence, redoes, attempt_of, struck_next, restart_of, restarts}
use Rattle.dependence.specs.Restarts.{RedoesStruck}
use Rattle.dependence.specs.meaning.Journal.{Stage, initial_stage, Allowed, happens, restarted, LawfulFrom, Lawful, stage_from, stage, Complete}
use Rattle.dependence.specs.JournalTests.{same_attempt}
use Rattle.dependence.specs.meaning.Counts.{is_restart}
use Rattle.dependence.specs.Counts.{is_issue, retirements, posts, takes, HasAll}
use Rattle.dependence.proofs.Auditing.{same_attempt-decides, contains-decides}
use Rattle.task_ast.proofs.Counting.{count-cons}
use Rattle.dependence.proofs.Counting.{passing-at}
use Rattle.dependence.specs.Standing.{KeepsClean}
use Rattle.dependence.specs.Measure.{is_unused}
use Rattle.dependence.proofs.Journals.{restarts-next, restarts-all}
use Rattle.dependence.proofs.RestartEnds.{struck-falls-next}

module _ (dependence : Dependence) (faults : List Fault) where
  -- each issue moves the front, each restart is made and each retirement counted
  pub record IsCounted (at after : Stage) (issues made retired : ℕ) : Type 0 where
    pub front_is : after.progress.front ≡ at.progress.front + issues
    pub made_is : length after.progress.made ≡ length at.progress.made + made
    pub retired_is : after.retired ≡ at.retired + retired

  one_made : (at : Stage) (o : Option ℕ) → o ≢ None → (restarted dependence at o).progress.front ≡ at.progress.front
      × (length (restarted dependence at o).progress.made ≡ length at.progress.made + 1)
      × ((restarted dependence at o).retired ≡ at.retired)
  one_made at None some = absurd (some refl)
  one_made at (Some p) some = (refl, length-append at.progress.made _, refl)

  pub counted : (at : Stage) (events : List Event) → LawfulFrom dependence faults at events
      → IsCounted at (stage_from dependence faults at events) (count_by is_issue events) (count_by is_restart events)
      (length (retirements events))
  counted at [] lawful = record { front_is = omega arith; made_is = omega arith; retired_is = omega arith }
  counted at (event.Issue p ∷ rest) lawful =
      let h = counted (happens dependence faults at (event.Issue p)) rest lawful.1 in
      let f = h.front_is in let m = h.made_is in let r = h.retired_is in
      rw (count-cons is_issue (event.Issue p) rest, count-cons is_restart (event.Issue p) rest)
      (record { front_is = omega arith; made_is = omega arith; retired_is = omega arith })
  counted at (event.Post p attempt ∷ rest) lawful =
      let h = counted (happens dependence faults at (event.Post p attempt)) rest lawful.1 in
      let f = h.front_is in let m = h.made_is in let r = h.retired_is in
      rw (count-cons is_issue (event.Post p attempt) rest, count-cons is_restart (event.Post p attempt) rest)
      (record { front_is = omega arith; made_is = omega arith; retired_is = omega arith })
  counted at (event.Take p attempt applies ∷ rest) lawful =
      let h = counted (happens dependence faults at (event.Take p attempt applies)) rest lawful.1 in
      let f = h.front_is in let m = h.made_is in let r = h.retired_is in
      rw (count-cons is_issue (event.Take p attempt applies) rest, count-cons is_restart (event.Take p attempt applies) rest)
      (record { front_is = omega arith; made_is = omega arith; retired_is = omega arith })
  counted at (event.Restart number ∷ rest) lawful =
      let h = counted (happens dependence faults at (event.Restart number)) rest lawful.1 in
      let one = one_made at (struck_next dependence faults at.progress) lawful.0.some_struck in
      let f = h.front_is in let m = h.made_is in let r = h.retired_is in let a = one.0 in let b = one.1 in let c = one.2 in
      rw (count-cons is_issue (event.Restart number) rest, count-cons is_restart (event.Restart number) rest)
      (record { front_is = omega arith; made_is = omega arith; retired_is = omega arith })
  counted at (event.Retire p ∷ rest) lawful =
      let h = counted (happens dependence faults at (event.Retire p)) rest lawful.1 in
      let f = h.front_is in let m = h.made_is in let r = h.retired_is in let same = lawful.0.oldest in
      rw (count-cons is_issue (event.Retire p) rest, count-cons is_restart (event.Retire p) rest)
      (record { front_is = omega arith; made_is = omega arith; retired_is = omega arith })

  in-order : (at : Stage) (events : List Event) → LawfulFrom dependence faults at events
      → retirements events ≡ numbers at.retired (length (retirements events))
  in-order at [] lawful = refl
  in-order at (event.Issue p ∷ rest) lawful = in-order (happens dependence faults at (event.Issue p)) rest lawful.1
  in-order at (event.Post p attempt ∷ rest) lawful = in-order (happens dependence faults at (event.Post p attempt)) rest lawful.1
  in-order at (event.Take p attempt applies ∷ rest) lawful =
      in-order (happens dependence faults at (event.Take p attempt applies)) rest lawful.1
  in-order at (event.Restart number ∷ rest) lawful =
      in-order (happens dependence faults at (event.Restart number)) rest lawful.1
      ∙ ap (λ n. numbers n (length (retirements rest))) (one_made at (struck_next dependence faults at.progress) lawful.0.some_struck).2
  in-order at (event.Retire p ∷ rest) lawful =
      let ih = in-order (happens dependence faults at (event.Retire p)) rest lawful.1 in
      let next : p + 1 ≡ suc at.retired = (let same = lawful.0.oldest in omega arith) in
      (λ i. lawful.0.oldest i ∷ (ih ∙ ap (λ n. numbers n (length (retirements rest))) next) i)

  -- positions retire in order
  pub retire-in-order : (events : List Event) → Lawful dependence faults events
      → retirements events ≡ numbers 0 (length (retirements events))
  retire-in-order events lawful = in-order initial_stage events lawful

  same_equivalence : IsEquivalence same_attempt
  same_equivalence = decided same_attempt same_attempt-decides

  abbrev Once : List (ℕ × ℕ) → Type 0
  Once pairs = IsDistinct same_attempt pairs

  pushed : (pairs rest : List (ℕ × ℕ)) (pair : ℕ × ℕ) → Once ((pairs ++ pair ∷ []) ++ rest) → Once (pairs ++ pair ∷ rest)
  pushed pairs rest pair once = subst Once (append_assoc pairs (pair ∷ []) rest) once

  posted-once : (at : Stage) (events : List Event) → LawfulFrom dependence faults at events → Once at.posted
      → Once (at.posted ++ posts events)
  posted-once at [] lawful once = subst Once (sym (append-nil at.posted)) once
  posted-once at (event.Issue p ∷ rest) lawful once = posted-once (happens dependence faults at (event.Issue p)) rest lawful.1 once
  posted-once at (event.Post p attempt ∷ rest) lawful once =
      pushed at.posted (posts rest) (p, attempt)
      (posted-once (happens dependence faults at (event.Post p attempt)) rest lawful.1
      (IsDistinct-push same_equivalence at.posted (p, attempt) once
      (false_from_ne_true (list_any (same_attempt (p, attempt)) at.posted)
      (λ e. lawful.0.unposted ((contains-decides (p, attempt) at.posted).0 e)))))
  posted-once at (event.Take p attempt applies ∷ rest) lawful once =
      posted-once (happens dependence faults at (event.Take p attempt applies)) rest lawful.1 once
  posted-once at (event.Restart number ∷ rest) lawful once =
      go (struck_next dependence faults at.progress) (posted-once (happens dependence faults at (event.Restart number)) rest lawful.1)
    where
      go : (o : Option ℕ) → (Once (restarted dependence at o).posted → Once ((restarted dependence at o).posted ++ posts rest))
          → Once (at.posted ++ posts rest)
      go None ih = ih once
      go (Some p) ih = ih once
  posted-once at (event.Retire p ∷ rest) lawful once = posted-once (happens dependence faults at (event.Retire p)) rest lawful.1 once

  taken-once : (at : Stage) (events : List Event) → LawfulFrom dependence faults at events → Once at.taken → Once (at.taken ++ takes events)
  taken-once at [] lawful once = subst Once (sym (append-nil at.taken)) once
  taken-once at (event.Issue p ∷ rest) lawful once = taken-once (happens dependence faults at (event.Issue p)) rest lawful.1 once
  taken-once at (event.Post p attempt ∷ rest) lawful once =
      taken-once (happens dependence faults at (event.Post p attempt)) rest lawful.1 once
  taken-once at (event.Take p attempt applies ∷ rest) lawful once =
      pushed at.taken (takes rest) (p, attempt)
      (taken-once (happens dependence faults at (event.Take p attempt applies)) rest lawful.1
      (IsDistinct-push same_equivalence at.taken (p, attempt) once
      (false_from_ne_true (list_any (same_attempt (p, attempt)) at.taken)
      (λ e. lawful.0.untaken ((contains-decides (p, attempt) at.taken).0 e)))))
  taken-once at (event.Restart number ∷ rest) lawful once =
      go (struck_next dependence faults at.progress) (taken-once (happens dependence faults at (event.Restart number)) rest lawful.1)
    where
      go : (o : Option ℕ) → (Once (restarted dependence at o).taken → Once ((restarted dependence at o).taken ++ takes rest))
          → Once (at.taken ++ takes rest)
      go None ih = ih once
      go (Some p) ih = ih once
  taken-once at (event.Retire p ∷ rest) lawful once = taken-once (happens dependence faults at (event.Retire p)) rest lawful.1 once

  -- no pair is posted twice, and none is taken twice
  pub once : (events : List Event) → Lawful dependence faults events
      → IsDistinct same_attempt (posts events) × IsDistinct same_attempt (takes events)
  unfolding IsDistinct
  once events lawful = (posted-once initial_stage events lawful tt, taken-once initial_stage events lawful tt)

  -- the last event of a lawful list was allowed
  last-allowed : (at : Stage) (events : List Event) (event : Event) → LawfulFrom dependence faults at (events ++ event ∷ [])
      → Allowed dependence faults (stage_from dependence faults at events) event
  last-allowed at [] event lawful = lawful.0
  last-allowed at (first ∷ events) event lawful = last-allowed (happens dependence faults at first) events event lawful.1

  -- a later attempt follows the restart that ended the one before
  pub runs-again : (events : List Event) (p attempt : ℕ) → Lawful dependence faults (events ++ event.Post p (suc attempt) ∷ [])
      → (number : ℕ) × (restart : Restart) × (slice_get (stage dependence faults events).progress.made number ≡ Some restart)
      × (redoes p restart ≡ true)
      × (attempt_of (take number (stage dependence faults events).progress.made) p ≡ attempt)
  runs-again events p attempt lawful =
      let present = (last-allowed initial_stage events (event.Post p (suc attempt)) lawful).present in
      passing-at (redoes p) (stage dependence faults events).progress.made attempt (omega arith)

  module _ (held : RedoesStruck dependence) where
    -- each restart used up a fault
    abbrev Few : Stage → Type 0
    Few at = length at.progress.made + count_by (is_unused at.progress.made) faults ≤ length faults

    few-restarted : (at : Stage) (o : Option ℕ) → struck_next dependence faults at.progress ≡ o → Few at → Few (restarted dependence at o)
    few-restarted at None e few = few
    few-restarted at (Some p) e few =
        let less = struck-falls-next dependence held faults at.progress p e in
        let n = length-append at.progress.made (restart_of dependence at.progress p ∷ []) in
        omega arith

    few-happens : (at : Stage) (e : Event) → Few at → Few (happens dependence faults at e)
    few-happens at (event.Issue p) few = few
    few-happens at (event.Post p attempt) few = few
    few-happens at (event.Take p attempt applies) few = few
    few-happens at (event.Restart number) few = few-restarted at (struck_next dependence faults at.progress) refl few
    few-happens at (event.Retire p) few = few

    few-from : (at : Stage) (events : List Event) → LawfulFrom dependence faults at events → Few at
        → Few (stage_from dependence faults at events)
    few-from at [] lawful few = few
    few-from at (e ∷ rest) lawful few = few-from (happens dependence faults at e) rest lawful.1 (few-happens at e few)

    pub few-attempts : (events : List Event) → Lawful dependence faults events
        → (length (stage dependence faults events).progress.made ≤ length faults)
        × ((p : ℕ) → attempt_of (stage dependence faults events).progress.made p ≤ length faults)
    few-attempts events lawful = (few, λ p. let most = count_by-le-length (redoes p) made in omega (arith, few))
      where
        made : List Restart
        made = (stage dependence faults events).progress.made

        few : length made ≤ length faults
        few = let h = few-from initial_stage events lawful (let n = count_by-le-length (is_unused []) faults in omega arith) in omega arith

  module _ (clean : KeepsClean dependence faults) where
    pub complete-has_all : (events : List Event) → Complete dependence faults events ↔ HasAll dependence faults events
    complete-has_all events = (forward, backward)
      where
        at : Stage
        at = stage dependence faults events

        forward : Complete dependence faults events → HasAll dependence faults events
        forward complete =
            let h = counted initial_stage events complete.lawful in
            let f = h.front_is in let m = h.made_is in let r = h.retired_is in
            let passed = complete.final.passed in let retired = complete.retired in
            let made = ap length (restarts-all dependence faults clean events complete) in
            record { lawful = complete.lawful; issues = omega arith; restarts = omega arith; retirements = omega arith }

        none_left : Lawful dependence faults events → length at.progress.made ≡ length (restarts dependence faults) → (o : Option ℕ)
            → struck_next dependence faults at.progress ≡ o → o ≡ None
        none_left lawful all None e = refl
        none_left lawful all (Some p) e =
            absurd (subst (λ next. IsSomeAnd next (λ (restart : Restart). restart.front ≡ at.progress.front))
            (slice_get_past (restarts dependence faults) (length at.progress.made) (omega arith))
            ((restarts-next dependence faults clean events lawful).0 (λ none. cc (sym e ∙ none))))

        backward : HasAll dependence faults events → Complete dependence faults events
        backward has =
            let h = counted initial_stage events has.lawful in
            let f = h.front_is in let m = h.made_is in let r = h.retired_is in
            let issues = has.issues in let all = has.restarts in let retired = has.retirements in
            record {
              lawful = has.lawful;
              final =
                  record {
                    passed = omega arith;
                    none_left =
                        none_left has.lawful (omega arith) (struck_next dependence faults at.progress) refl;
                  };
              retired = omega arith;
            }
