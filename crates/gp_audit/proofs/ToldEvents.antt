-- Lines and the events for which they stand.
use Rattle.std.proofs.Common.{◌≡◌, ℕ, suc, ◌+◌, List, [], ◌∷◌, ◌++◌, length, count_by, Option, Some, None, refl, sym, ap, ◌∙◌, subst, arith, append_assoc}
use Rattle.std.proofs.lemmas.List.{append-nil}
use Rattle.task_ast.proofs.Counting.{count-cons}
use Rattle.gp_base.specs.declared.fault.Fault.{Fault}
use Rattle.gp_base.specs.declared.journal.Event.{Event}
use Rattle.gp_base.specs.declared.journal.Event.TheVariants as event
use Rattle.gp_base.specs.declared.journal.Restart.{Restart}
use Rattle.dependence.specs.meaning.Restarts.{Dependence, struck_next, restart_of, restarts}
use Rattle.dependence.specs.meaning.Journal.{Stage, initial_stage, Allowed, happens, LawfulFrom, Lawful, stage_from, stage, restarted}
use Rattle.dependence.specs.meaning.Counts.{is_restart}
use Rattle.dependence.specs.Standing.{KeepsClean}
use Rattle.dependence.proofs.Counts.{counted}
use Rattle.dependence.proofs.Journals.{LawfulFrom-push, stage_from-push, restarts-first}
use Rattle.gp_audit.specs.declared.line.TraceLine.{TraceLine}
use Rattle.gp_audit.specs.declared.line.TraceLine.TheVariants as line
use Rattle.gp_audit.specs.ToldLines.{event_of, made_after, events_from, events_of, restarts_told, TellLawful}

-- the restarts that a line tells
abbrev told_by : TraceLine → List Restart
told_by (line.Restart r) = r ∷ []
told_by _ = []

told-cons : (l : TraceLine) (lines : List TraceLine) → restarts_told (l ∷ lines) ≡ told_by l ++ restarts_told lines
told-cons (line.Issue p) lines = refl
told-cons (line.Post p a) lines = refl
told-cons (line.Take p a x) lines = refl
told-cons (line.Restart r) lines = refl
told-cons (line.Retire p) lines = refl

pub told-push : (lines : List TraceLine) (l : TraceLine) → restarts_told (lines ++ l ∷ []) ≡ restarts_told lines ++ told_by l
told-push [] l = told-cons l [] ∙ append-nil (told_by l)
told-push (x ∷ lines) l =
    told-cons x (lines ++ l ∷ []) ∙ (ap (λ r. told_by x ++ r) (told-push lines l)
    ∙ (sym (append_assoc (told_by x) (restarts_told lines) (told_by l)) ∙ ap (λ r. r ++ told_by l) (sym (told-cons x lines))))

made-cons : (made : ℕ) (l : TraceLine) (lines : List TraceLine)
    → made_after made l + length (restarts_told lines) ≡ made + length (restarts_told (l ∷ lines))
made-cons made (line.Issue p) lines = refl
made-cons made (line.Post p a) lines = refl
made-cons made (line.Take p a x) lines = refl
made-cons made (line.Restart r) lines = omega arith
made-cons made (line.Retire p) lines = refl

pub events-push : (made : ℕ) (lines : List TraceLine) (l : TraceLine)
    → events_from made (lines ++ l ∷ []) ≡ events_from made lines ++ event_of (made + length (restarts_told lines)) l ∷ []
events-push made [] l = ap (λ n. event_of n l ∷ []) (omega arith)
events-push made (x ∷ lines) l =
    ap (λ r. event_of made x ∷ r) (events-push (made_after made x) lines l
    ∙ ap (λ n. events_from (made_after made x) lines ++ event_of n l ∷ []) (made-cons made x lines))

counts-told : (made : ℕ) (lines : List TraceLine) → count_by is_restart (events_from made lines) ≡ length (restarts_told lines)
counts-told made [] = refl
counts-told made (line.Issue p ∷ lines) =
    let c = count-cons is_restart (event.Issue p) (events_from made lines) in
    let t = counts-told made lines in
    omega arith
counts-told made (line.Post p a ∷ lines) =
    let c = count-cons is_restart (event.Post p a) (events_from made lines) in
    let t = counts-told made lines in
    omega arith
counts-told made (line.Take p a x ∷ lines) =
    let c = count-cons is_restart (event.Take p a x) (events_from made lines) in
    let t = counts-told made lines in
    omega arith
counts-told made (line.Restart r ∷ lines) =
    let c = count-cons is_restart (event.Restart made) (events_from (suc made) lines) in
    let t = counts-told (suc made) lines in
    omega arith
counts-told made (line.Retire p ∷ lines) =
    let c = count-cons is_restart (event.Retire p) (events_from made lines) in
    let t = counts-told made lines in
    omega arith

-- two beginnings of one list, of one length, are the same
same_front : {A : Type 0} (all xs ys xs' ys' : List A) → all ≡ xs ++ xs' → all ≡ ys ++ ys' → length xs ≡ length ys → (xs ≡ ys) × (xs' ≡ ys')
same_front all [] [] xs' ys' ex ey l = (refl, sym ex ∙ ey)
same_front all [] (y ∷ ys) xs' ys' ex ey l = absurd (omega arith)
same_front all (x ∷ xs) [] xs' ys' ex ey l = absurd (omega arith)
same_front all (x ∷ xs) (y ∷ ys) xs' ys' ex ey l =
    let both : x ∷ (xs ++ xs') ≡ y ∷ (ys ++ ys') = sym ex ∙ ey in
    let tails : xs ++ xs' ≡ ys ++ ys' = cc in
    let heads : x ≡ y = cc in
    let rest = same_front (xs ++ xs') xs ys xs' ys' refl tails (omega arith) in
    let front = rest.0 in
    (cc, rest.1)

module _ (dependence : Dependence) (faults : List Fault) where
  -- the line may come next at a stage
  abbrev pub LineAllowed : Stage → TraceLine → Type 0
  LineAllowed at (line.Restart r) =
      (p : ℕ) × (struck_next dependence faults at.progress ≡ Some p) × (r ≡ restart_of dependence at.progress p)
  LineAllowed at (line.Issue p) = Allowed dependence faults at (event.Issue p)
  LineAllowed at (line.Post p a) = Allowed dependence faults at (event.Post p a)
  LineAllowed at (line.Take p a x) = Allowed dependence faults at (event.Take p a x)
  LineAllowed at (line.Retire p) = Allowed dependence faults at (event.Retire p)

module _ (dependence : Dependence) (faults : List Fault) (clean : KeepsClean dependence faults) where
  abbrev pub at_of : List TraceLine → Stage
  at_of lines = stage dependence faults (events_of lines)

  made-length : (lines : List TraceLine) → Lawful dependence faults (events_of lines)
      → length (at_of lines).progress.made ≡ length (restarts_told lines)
  made-length lines lawful =
      (let c = (counted dependence faults initial_stage (events_of lines) lawful).made_is in let t = counts-told 0 lines in omega arith)

  pub made-told : (lines : List TraceLine) → TellLawful dependence faults lines → (at_of lines).progress.made ≡ restarts_told lines
  made-told lines lawful =
      let first = restarts-first dependence faults clean (events_of lines) lawful.lawful in
      (same_front (restarts dependence faults) (at_of lines).progress.made
      (restarts_told lines) first.0 lawful.first.0 first.1 lawful.first.1 (made-length lines lawful.lawful)).0

  -- the events of lines with one more
  abbrev next_event : List TraceLine → TraceLine → Event
  next_event lines l = event_of (0 + length (restarts_told lines)) l

  pub stage-push : (lines : List TraceLine) (l : TraceLine)
      → at_of (lines ++ l ∷ []) ≡ happens dependence faults (at_of lines) (next_event lines l)
  stage-push lines l =
      ap (stage dependence faults) (events-push 0 lines l)
      ∙ stage_from-push dependence faults initial_stage (events_of lines) (next_event lines l)

  event-allowed : (lines : List TraceLine) → TellLawful dependence faults lines → (l : TraceLine)
      → LineAllowed dependence faults (at_of lines) l → Allowed dependence faults (at_of lines) (next_event lines l)
  event-allowed lines lawful (line.Issue p) may = may
  event-allowed lines lawful (line.Post p a) may = may
  event-allowed lines lawful (line.Take p a x) may = may
  event-allowed lines lawful (line.Retire p) may = may
  event-allowed lines lawful (line.Restart r) may =
      record {
        numbered = (let n = made-length lines lawful.lawful in omega arith);
        some_struck = λ none. (let bad = sym none ∙ may.1 in cc);
      }

  -- the restarts that are made after one more line
  made-next : (lines : List TraceLine) (l : TraceLine) → LineAllowed dependence faults (at_of lines) l
      → (happens dependence faults (at_of lines) (next_event lines l)).progress.made ≡ (at_of lines).progress.made ++ told_by l
  made-next lines (line.Issue p) may = sym (append-nil (at_of lines).progress.made)
  made-next lines (line.Post p a) may = sym (append-nil (at_of lines).progress.made)
  made-next lines (line.Take p a x) may = sym (append-nil (at_of lines).progress.made)
  made-next lines (line.Retire p) may = sym (append-nil (at_of lines).progress.made)
  made-next lines (line.Restart r) may =
      ap (λ o. (restarted dependence (at_of lines) o).progress.made) may.1 ∙ ap (λ x. (at_of lines).progress.made ++ x ∷ []) (sym may.2)

  -- lines go on lawfully by a line that may come next
  pub lawful-push : (lines : List TraceLine) (l : TraceLine) → TellLawful dependence faults lines
      → LineAllowed dependence faults (at_of lines) l → TellLawful dependence faults (lines ++ l ∷ [])
  lawful-push lines l lawful may =
      let events =
      LawfulFrom-push dependence faults initial_stage (events_of lines) (next_event lines l) lawful.lawful
      (event-allowed lines lawful l may) in
      let all : Lawful dependence faults (events_of (lines ++ l ∷ [])) =
      subst (Lawful dependence faults) (sym (events-push 0 lines l)) events in
      let first = restarts-first dependence faults clean (events_of (lines ++ l ∷ [])) all in
      let made =
      ap (λ at. at.progress.made) (stage-push lines l)
      ∙ (made-next lines l may ∙ (ap (λ r. r ++ told_by l) (made-told lines lawful) ∙ sym (told-push lines l))) in
      record { lawful = all; first = (first.0, first.1 ∙ ap (λ r. r ++ first.0) made) }

  last-allowed : (at : Stage) (events : List Event) (e : Event) → LawfulFrom dependence faults at (events ++ e ∷ [])
      → Allowed dependence faults (stage_from dependence faults at events) e
  last-allowed at [] e lawful = lawful.0
  last-allowed at (x ∷ events) e lawful = last-allowed (happens dependence faults at x) events e lawful.1

  -- and only so
  pub push-lawful : (lines : List TraceLine) (l : TraceLine) → TellLawful dependence faults lines
      → TellLawful dependence faults (lines ++ l ∷ []) → LineAllowed dependence faults (at_of lines) l
  push-lawful lines l lawful all = go l refl
    where
      last : Allowed dependence faults (at_of lines) (next_event lines l)
      last =
          last-allowed initial_stage (events_of lines) (next_event lines l)
          (subst (Lawful dependence faults) (events-push 0 lines l) all.lawful)

      go : (x : TraceLine) → l ≡ x → LineAllowed dependence faults (at_of lines) x
      go (line.Issue p) e = subst (λ y. Allowed dependence faults (at_of lines) (next_event lines y)) e last
      go (line.Post p a) e = subst (λ y. Allowed dependence faults (at_of lines) (next_event lines y)) e last
      go (line.Take p a x) e = subst (λ y. Allowed dependence faults (at_of lines) (next_event lines y)) e last
      go (line.Retire p) e = subst (λ y. Allowed dependence faults (at_of lines) (next_event lines y)) e last
      go (line.Restart r) e = struck (struck_next dependence faults (at_of lines).progress) refl
        where
          may : Allowed dependence faults (at_of lines) (next_event lines (line.Restart r))
          may = subst (λ y. Allowed dependence faults (at_of lines) (next_event lines y)) e last

          struck : (o : Option ℕ) → struck_next dependence faults (at_of lines).progress ≡ o
              → LineAllowed dependence faults (at_of lines) (line.Restart r)
          struck None none = absurd (may.some_struck none)
          struck (Some p) some =
              let made =
              ap (λ at. at.progress.made) (stage-push lines l)
              ∙ (ap (λ y. (happens dependence faults (at_of lines) (next_event lines y)).progress.made) e
              ∙ ap (λ o. (restarted dependence (at_of lines) o).progress.made) some) in
              let told = made-told (lines ++ l ∷ []) all ∙ (told-push lines l ∙ ap (λ y. restarts_told lines ++ told_by y) e) in
              let both =
              same_front (at_of (lines ++ l ∷ [])).progress.made (at_of lines).progress.made (restarts_told lines)
              (restart_of dependence (at_of lines).progress p ∷ []) (r ∷ []) made told (made-length lines lawful.lawful) in
              let tails = both.1 in
              (p, some, cc)
