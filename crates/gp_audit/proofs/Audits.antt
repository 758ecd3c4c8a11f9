-- An audit, line after line. After each line what is kept shows the stage of the lines so far (Told). A line that may
-- come next is one that the rules allow, and leads on so (Shown, After); one that may not makes the lines unlawful; and
-- all is there exactly where the journal is complete.
use Rattle.std.proofs.Common.{◌≡◌, ◌↔◌, ℕ, ◌<◌, ◌≤◌, Bool, true, false, cond, min, List, [], ◌∷◌, ◌++◌, length, get_or, Contains, inl, inr, Option, Some, None, refl, sym, ap, ◌∙◌, subst, arith}
use Rattle.std.specs.Prelude.{slice_get}
use Rattle.std.specs.List.{All, list_any}
use Rattle.std.specs.Option.{option_or, option_map_or}
use Rattle.std.proofs.lemmas.Option.{slice_get_within}
use Rattle.std.proofs.lemmas.Bool.{false≢true, and_parts, cases_lt}
use Rattle.std.proofs.lemmas.List.{get_or_default, get_or_past}
use Rattle.std.proofs.lemmas.List.Elements.{All-contains}
use Rattle.gp_base.specs.declared.limits.TheConstants.{MOST_FAULTS}
use Rattle.gp_base.specs.declared.fault.Fault.{Fault}
use Rattle.gp_base.specs.declared.journal.Restart.{Restart}
use Rattle.one_thread.specs.declared.run.Step.{Step}
use Rattle.dependence.specs.meaning.Conflict.{clash_in}
use Rattle.dependence.specs.meaning.Restarts.{Dependence, least_struck}
use Rattle.dependence.specs.meaning.Journal.{Stage, initial_stage, stage, Complete}
use Rattle.dependence.specs.JournalTests.{same_attempt}
use Rattle.dependence.specs.Standing.{AreShort, StageStands, NamesIssued}
use Rattle.dependence.proofs.Auditing.{contains-decides}
use Rattle.dependence.proofs.Counts.{few-attempts}
use Rattle.dependence.proofs.IssuedPositions.{initial-issued, issued-from}
use Rattle.dependence.proofs.Standing.{initial-stands, stands-from, keeps-retired}
use Rattle.gp_audit.specs.declared.line.TraceLine.{TraceLine}
use Rattle.gp_audit.specs.declared.line.TraceLine.TheVariants as line
use Rattle.gp_audit.specs.declared.state.Seen.{Seen}
use Rattle.gp_audit.specs.Steps.{feet_in, dependence_by}
use Rattle.gp_audit.specs.ToldLines.{events_of, TellLawful}
use Rattle.gp_audit.specs.inner.Audited.{Audited, nothing_seen, seen_at, first_seen, strikes_one, strikes, least_of, drains_now, struck_in, takes, IsRestart, Takes, after_line, is_whole, IsNoteworthy, Shows}
use Rattle.gp_audit.specs.inner.Told.{Told}
use Rattle.gp_audit.proofs.After.{line-shows}
use Rattle.gp_audit.proofs.RedoLists.{all-below-front, few-dependents}
use Rattle.gp_audit.proofs.Shown.{takes-is, whole-is, seen-is}
use Rattle.gp_audit.proofs.StepOrder.{steps-struck, steps-redo, steps-later, steps-clean}
use Rattle.gp_audit.proofs.ToldEvents.{lawful-push, push-lawful, stage-push}

-- the position that is struck was issued
struck-low : (test : Fault → Bool) (n : ℕ) → ((fault : Fault) → test fault ≡ true → fault.pos < n) → (faults : List Fault) (p : ℕ)
    → least_struck test faults ≡ Some p → p < n
struck-low test n low [] p e = absurd (cc e)
struck-low test n low (x ∷ xs) p e = go (test x) refl (least_struck test xs) refl e (struck-low test n low xs)
  where
    go : (b : Bool) → test x ≡ b → (o : Option ℕ) → least_struck test xs ≡ o → cond b (Some (option_map_or (min x.pos) o x.pos)) o ≡ Some p
        → ((q : ℕ) → least_struck test xs ≡ Some q → q < n) → p < n
    go true t None f g ih = let l = low x t in let same : x.pos ≡ p = cc g in omega arith
    go true t (Some q) f g ih = let l = low x t in let m = ih q f in let same : min x.pos q ≡ p = cc g in omega arith
    go false t o f g ih = ih p (f ∙ g)

strikes-low : (any : Bool) (seen : List Seen) (fault : Fault) → strikes any seen fault ≡ true → fault.pos < length seen
strikes-low any seen fault e = go (slice_get seen fault.pos) refl e
  where
    go : (o : Option Seen) → slice_get seen fault.pos ≡ o → strikes_one any (length seen) fault o ≡ true → fault.pos < length seen
    go None f g = absurd (false≢true g)
    go (Some s) f g = slice_get_within seen fault.pos s f

pub struck_in-low : (a : Audited) (p : ℕ) → struck_in a ≡ Some p → p < length a.seen
struck_in-low a p e = go (least_of a false) refl e
  where
    least-low : (any : Bool) → least_of a any ≡ Some p → p < length a.seen
    least-low any f = struck-low (strikes any a.seen) (length a.seen) (strikes-low any a.seen) a.faults p f

    last : (b : Bool) → cond b (least_of a true) None ≡ Some p → p < length a.seen
    last true f = least-low true f
    last false f = absurd (cc f)

    go : (o : Option ℕ) → least_of a false ≡ o → option_or o (cond (drains_now a) (least_of a true) None) ≡ Some p → p < length a.seen
    go None f g = last (drains_now a) g
    go (Some q) f g = least-low false (f ∙ g)

-- what a line that may come next names was issued
pub takes-low : (a : Audited) (p attempt : ℕ) (applies : Bool) → IsNoteworthy a → takes a p attempt applies ≡ true → p < length a.seen
takes-low a p attempt applies noteworthy e =
    All-contains (λ pair. pair.0 < length a.seen) a.out (p, attempt) noteworthy.out
    ((contains-decides (p, attempt) a.out).0 (and_parts (list_any (same_attempt (p, attempt)) a.out) _ e).0)

pub restart-short : (a : Audited) (r : Restart) (o : Option ℕ) → IsRestart a r o → length r.redo ≤ length a.seen
restart-short a r None h = absurd h
restart-short a r (Some p) h =
    subst (λ (x : Restart). length x.redo ≤ length a.seen) (sym h) (few-dependents (clash_in (feet_in a.steps)) p (length a.seen))

pub restart-low : (a : Audited) (r : Restart) (o : Option ℕ) → IsRestart a r o → All (λ p. p < length a.seen) r.redo
restart-low a r None h = absurd h
restart-low a r (Some p) h =
    subst (λ (x : Restart). All (λ p. p < length a.seen) x.redo) (sym h)
    (all-below-front (clash_in (feet_in a.steps)) p (length a.seen) (length a.seen) (omega arith))

pub told-start : (steps : List Step) (faults : List Fault) → Told (nothing_seen steps faults) []
told-start steps faults =
    record {
      lawful = record { lawful = tt; first = (_, refl) };
      shows = record {
        front = refl;
        retired = refl;
        each = λ p s e. absurd (none p s e);
        out = λ p attempt. (λ c. (c, λ d. absurd (let l = d.1 in omega arith)), λ h. h.0);
        waiting = λ p. (λ c. absurd (let l = c.1 in omega arith), λ h. absurd (let l = h.0 in omega arith));
      };
    }
  where
    none : (p : ℕ) (s : Seen) → slice_get [] p ≡ Some s → ⊥
    none p s e = let l = slice_get_within [] p s e in omega arith

keep : (a : Audited) (l : TraceLine) (lines : List TraceLine) → TellLawful (dependence_by a.steps) a.faults lines
    → Shows (stage (dependence_by a.steps) a.faults (events_of lines)) (after_line a l) → Told (after_line a l) lines
keep a (line.Issue p) lines lawful shows = record { lawful = lawful; shows = shows }
keep a (line.Post p attempt) lines lawful shows = record { lawful = lawful; shows = shows }
keep a (line.Take p attempt applies) lines lawful shows = record { lawful = lawful; shows = shows }
keep a (line.Restart r) lines lawful shows = record { lawful = lawful; shows = shows }
keep a (line.Retire p) lines lawful shows = record { lawful = lawful; shows = shows }

pub same-steps : (a : Audited) (l : TraceLine) → ((after_line a l).steps ≡ a.steps) × ((after_line a l).faults ≡ a.faults)
same-steps a (line.Issue p) = (refl, refl)
same-steps a (line.Post p attempt) = (refl, refl)
same-steps a (line.Take p attempt applies) = (refl, refl)
same-steps a (line.Restart r) = (refl, refl)
same-steps a (line.Retire p) = (refl, refl)

module _ (a : Audited) (lines : List TraceLine) (told : Told a lines) (short : AreShort a.faults) where
  abbrev dependence : Dependence
  dependence = dependence_by a.steps

  abbrev at : Stage
  at = stage dependence a.faults (events_of lines)

  stands : StageStands dependence a.faults at
  stands =
      stands-from dependence (steps-redo a.steps) a.faults short
      (λ other. keeps-retired dependence a.faults other (steps-later a.steps)) initial_stage (events_of lines)
      (initial-stands dependence a.faults) told.lawful.lawful

  names : NamesIssued at
  names = issued-from dependence (steps-redo a.steps) a.faults initial_stage (events_of lines) told.lawful.lawful initial-issued

  pub told-within : length a.seen ≤ length a.steps
  told-within = let front = told.shows.front in let low = stands.front_low in omega arith

  pub told-noteworthy : length a.faults ≤ MOST_FAULTS → IsNoteworthy a
  told-noteworthy few =
      record {
        out = λ k d l. out-low (get_or a.out k d) (k, l, get_or_default a.out k (get_or a.out k d) d l);
        few = attempts;
      }
    where
      out-low : (pair : ℕ × ℕ) → Contains a.out pair → pair.0 < length a.seen
      out-low pair c =
          let there = ((told.shows.out pair.0 pair.1).0 c).0 in
          let low = names.posted pair.0 pair.1 there in
          let front = told.shows.front in
          omega arith

      attempts : (p : ℕ) → (seen_at a.seen p).attempt ≤ MOST_FAULTS
      attempts p =
          elim (cases_lt p (length a.seen)) [
            | inl l ↦ (let front = told.shows.front in
                let is = (seen-is at a told.shows p (omega arith)).attempt in
                let most = (few-attempts dependence a.faults (steps-struck a.steps) (events_of lines) told.lawful.lawful).1 p in
                omega arith)
            | inr past ↦
                (let none : (seen_at a.seen p).attempt ≡ 0 = ap (λ (s : Seen). s.attempt) (get_or_past a.seen p (first_seen p) past) in
                omega arith)
          ]

  pub told-next : (l : TraceLine) → Takes a l → Told (after_line a l) (lines ++ l ∷ [])
  told-next l takes =
      let allowed = (takes-is at a told.shows stands l).0 takes in
      keep a l (lines ++ l ∷ []) (lawful-push dependence a.faults (steps-clean a.steps a.faults short) lines l told.lawful allowed)
      (subst (λ stage. Shows stage (after_line a l)) (sym (stage-push dependence a.faults (steps-clean a.steps a.faults short) lines l))
      (line-shows at a told.shows stands names l _ allowed))

  pub told-stops : (l : TraceLine) → ¬ Takes a l → ¬ TellLawful dependence a.faults (lines ++ l ∷ [])
  told-stops l none all =
      none ((takes-is at a told.shows stands l).1
      (push-lawful dependence a.faults (steps-clean a.steps a.faults short) lines l told.lawful all))

  pub told-whole : (is_whole a ≡ true) ↔ Complete dependence a.faults (events_of lines)
  told-whole =
      let whole = whole-is at a told.shows stands in
      (λ e. (let h = whole.0 e in record { lawful = told.lawful.lawful; final = h.0; retired = h.1 }), λ c. whole.1 (c.final, c.retired))

-- what holds of an audit's run, of the run and the lines that it was given
pub of-given : (P : List Step → List Fault → List TraceLine → Type 0) (s t : List Step) (f g : List Fault) (lines all : List TraceLine)
    → s ≡ t → f ≡ g → lines ≡ all → P s f lines → P t g all
of-given P s t f g lines all es ef el h = subst (λ x. P x g all) es (subst (λ x. P s x all) ef (subst (λ x. P s f x) el h))
