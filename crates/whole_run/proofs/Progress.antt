-- Some event is possible while work is left, so that each round of a run leaves less to do or makes the end known.
-- Where nothing is out and nothing may be posted, each position below the front is applied, since the first that is not
-- might be posted. Then no thread waits for a result; so the oldest position would retire, the next one be issued, or
-- the run has ended (stuck). So a round without a result has some other event, or makes the end known.
use Rattle.std.proofs.Common.{◌≡◌, ◌⊎◌, inl, inr, ℕ, zero, suc, ◌<◌, ◌≤◌, Bool, true, false, cond, ◌&&◌, nat_eq, List, [], ◌∷◌, Contains, Option, Some, None, is_some, IfSome, refl, sym, ap, subst, ◌∙◌, arith, slice_get}
use Rattle.std.specs.Bool.{Decides}
use Rattle.std.specs.List.{list_any}
use Rattle.std.specs.Option.{option_or, option_map_or}
use Rattle.std.proofs.lemmas.Option.{slice_get_past}
use Rattle.std.proofs.lemmas.Bool.{true≢false, eq-eqb, or_left, or_right, both_ways, false≢true, eqb-true, and_parts, or_cases, cases_lt}
use Rattle.std.proofs.lemmas.List.Elements.{Contains-push, Contains-append_left}
use Rattle.gp_base.specs.declared.fault.Fault.{Fault}
use Rattle.gp_base.specs.declared.ending.End.{End}
use Rattle.gp_base.specs.declared.journal.Event.{Event}
use Rattle.gp_base.specs.declared.journal.Event.TheVariants as event
use Rattle.task_ast.specs.meaning.Table.{is_settle}
use Rattle.task_ast.specs.meaning.Plain.{Subthread}
use Rattle.dependence.specs.meaning.Dependents.{is_member}
use Rattle.dependence.specs.meaning.Restarts.{Dependence, drains, is_live, is_due, least_struck, NoneDue, NoneLive, struck_next, restart_of}
use Rattle.dependence.specs.meaning.Journal.{Stage, initial_stage, WasTaken, happens, restarted, stage_from, Complete}
use Rattle.dependence.specs.JournalTests.{same_attempt}
use Rattle.dependence.specs.Standing.{present}
use Rattle.dependence.proofs.Auditing.{contains-decides}
use Rattle.rollback.specs.meaning.Cuts.{cuts_of}
use Rattle.rollback.proofs.Backs.{cut-low}
use Rattle.whole_run.specs.declared.recovery.Recovery.{Recovery}
use Rattle.whole_run.specs.declared.recovery.Recovery.TheVariants.{Selective, Rollback}
use Rattle.whole_run.specs.declared.calls.Halt.{Halt}
use Rattle.whole_run.specs.declared.calls.Halt.TheVariants as halt
use Rattle.whole_run.specs.View.{Batch, View, run_in, dependence_in, end_in, now, is_known, IsHalt, Stands}
use Rattle.whole_run.specs.Gives.{struck_now, BlockIsOpen, IsNear, NoneToPost, HasFinished}
use Rattle.whole_run.specs.inner.Rounds.{left, left_to_know, Rests, Onward, IsQuiet, IsUnfinished, IsIssued, AreTaken, TakeGives}
use Rattle.whole_run.proofs.Events.{stage-stands, now-same, left-same, onward-most}

-- what is applied was taken
abbrev AppliedTaken : Stage → Type 0
AppliedTaken at = (p : ℕ) → at.applied p ≡ true → WasTaken at p

module _ (dependence : Dependence) (faults : List Fault) where
  still-taken : (at : Stage) (e : Event) → AppliedTaken at → AppliedTaken (happens dependence faults at e)
  still-taken at (event.Issue p) taken q applied = taken q applied
  still-taken at (event.Post p attempt) taken q applied = taken q applied
  still-taken at (event.Take p attempt applies) taken q applied =
      elim (or_cases (applies && nat_eq q p) (at.applied q) applied) [
        | inl this ↦
            (let same : q ≡ p = eqb-true q p (and_parts applies (nat_eq q p) this).1 in
            subst (WasTaken (happens dependence faults at (event.Take p attempt applies))) (sym same)
            (attempt, Contains-push at.taken (p, attempt)))
        | inr other ↦ (let before = taken q other in (before.0, Contains-append_left at.taken ((p, attempt) ∷ []) (q, before.0) before.1))
      ]
  still-taken at (event.Restart number) taken q applied = go (struck_next dependence faults at.progress) applied
    where
      kept : (p : ℕ) (b : Bool) → cond b false (at.applied q) ≡ true → WasTaken at q
      kept p true e = absurd (false≢true e)
      kept p false e = taken q e

      go : (o : Option ℕ) → (restarted dependence at o).applied q ≡ true → WasTaken (restarted dependence at o) q
      go None e = taken q e
      go (Some p) e = kept p (is_member q (restart_of dependence at.progress p).redo) e
  still-taken at (event.Retire p) taken q applied = taken q applied

  taken-from : (at : Stage) (events : List Event) → AppliedTaken at → AppliedTaken (stage_from dependence faults at events)
  taken-from at [] taken = taken
  taken-from at (e ∷ rest) taken = taken-from (happens dependence faults at e) rest (still-taken at e taken)

applied-taken : (view : View) → AppliedTaken (now view)
applied-taken view = taken-from (dependence_in view.batch) view.batch.faults initial_stage view.events (λ p e. absurd (false≢true e))

-- a block is open where all before the position is applied
block-open : (recovery : Recovery) (run : List Subthread) (at : Stage) (p : ℕ) → ((q : ℕ) → q < p → at.applied q ≡ true)
    → BlockIsOpen recovery run at p
block-open Selective run at p earlier = tt
block-open (Rollback every) run at p earlier =
    λ q l. earlier q (let low = cut-low (cuts_of every run) p in omega arith)

-- and the position is looked at
near-first : (recovery : Recovery) (at : Stage) (p : ℕ) → ((q : ℕ) → q < p → at.applied q ≡ true) → IsNear recovery at p
near-first Selective at p earlier = tt
near-first (Rollback every) at p earlier = λ q far. earlier q (omega arith)

-- where nothing is out and nothing may be posted, each position below the front is applied
module _ (view : View) (stands : Stands view) (none : NoneToPost view 0) (home : AreTaken view) where
  was-posted : (p : ℕ) → (now view).retired ≤ p → p < (now view).progress.front → ((q : ℕ) → q < p → (now view).applied q ≡ true)
      → Contains (now view).posted (p, present (now view) p)
  was-posted p young below earlier = go (list_any (same_attempt (p, present (now view) p)) (now view).posted) refl
    where
      decided : Decides (list_any (same_attempt (p, present (now view) p)) (now view).posted)
          (Contains (now view).posted (p, present (now view) p))
      decided = contains-decides (p, present (now view) p) (now view).posted

      go : (b : Bool) → list_any (same_attempt (p, present (now view) p)) (now view).posted ≡ b
          → Contains (now view).posted (p, present (now view) p)
      go true e = decided.0 e
      go false e =
          absurd (none p (omega arith) (near-first view.batch.recovery (now view) p earlier)
          (record {
            by_locks = record {
              issued = below;
              unretired = young;
              present = refl;
              unposted = λ h. both_ways (list_any (same_attempt (p, present (now view) p)) (now view).posted) e (decided.1 h);
              ready = λ q l clash. earlier q l;
            };
            is_open = block-open view.batch.recovery (run_in view.batch) (now view) p earlier;
          }))

  all-below : (n p : ℕ) → p < n → p < (now view).progress.front → (now view).applied p ≡ true
  all-below zero p l below = absurd (omega arith)
  all-below (suc n) p l below =
      elim (cases_lt p (now view).retired) [
        | inl old ↦ (stage-stands view stands).retired_applied p old
        | inr young ↦ (stage-stands view stands).taken_applied p
            (home (p, present (now view) p) (was-posted p young below (λ q m. all-below n q (omega arith) (omega arith))))
      ]

  all-applied : (p : ℕ) → p < (now view).progress.front → (now view).applied p ≡ true
  all-applied p below = all-below (suc p) p (omega arith) below

  -- so no thread waits for a result
  pub none-awaited : (q : ℕ) → q < (now view).progress.front → WasTaken (now view) q
  none-awaited q below = applied-taken view q (all-applied q below)

-- no fault is due where no position is struck
pub none-due : (view : View) → struck_now view ≡ None → NoneDue view.batch.faults (now view).progress
none-due view none =
    go (least_struck (is_due (now view).progress) view.batch.faults)
    (cond (is_known view) (least_struck (is_live (now view).progress) view.batch.faults) None) refl none
  where
    go : (o other : Option ℕ) → least_struck (is_due (now view).progress) view.batch.faults ≡ o → option_or o other ≡ None
        → least_struck (is_due (now view).progress) view.batch.faults ≡ None
    go None other e f = e
    go (Some p) other e f = absurd (cc f)

-- and none is live where the end is known
none-live : (view : View) → is_known view ≡ true → struck_now view ≡ None → NoneLive view.batch.faults (now view).progress
none-live view known none = rw (none-due view none, known) at none

-- where the run halts it drains
pub halts-drain : (batch : Batch) (front : ℕ) (halts : Halt) → IsHalt batch front halts → drains (dependence_in batch) front ≡ true
halts-drain batch front (halt.Ended ending) h =
    or_left (nat_eq front (dependence_in batch).count) ((dependence_in batch).settles front) (eq-eqb front (dependence_in batch).count h.0)
halts-drain batch front halt.Settling h = or_right (nat_eq front (dependence_in batch).count) ((dependence_in batch).settles front) h

-- no settle stands past the end
none-settles : (batch : Batch) (front : ℕ) → front ≡ (dependence_in batch).count → (dependence_in batch).settles front ≡ true → ⊥
none-settles batch front passed settles =
    let past : slice_get (run_in batch) front ≡ None = slice_get_past (run_in batch) front (let e = passed in omega arith) in
    true≢false (sym settles ∙ ap (λ o. option_map_or (λ (s : Subthread). is_settle s.begins.sync) o false) past)

known-ends : (view : View) → Stands view → is_known view ≡ true → drains (dependence_in view.batch) (now view).progress.front ≡ true
known-ends view stands known = go view.ended known stands.ended
  where
    go : (o : Option Halt) → is_some o ≡ true → IfSome o (IsHalt view.batch (now view).progress.front)
        → drains (dependence_in view.batch) (now view).progress.front ≡ true
    go None e h = absurd (false≢true e)
    go (Some halts) e h = halts-drain view.batch (now view).progress.front halts h

-- what is known of a halt
known-halt : (view : View) (halts : Halt) → Stands view → view.ended ≡ Some halts → IsHalt view.batch (now view).progress.front halts
known-halt view halts stands is = subst (λ o. IfSome o (IsHalt view.batch (now view).progress.front)) is stands.ended

-- a run that has ended does so as the plain run
pub ends-so : (view : View) (ending : End) → Stands view → HasFinished view ending → ending ≡ end_in view.batch
ends-so view ending stands done = (known-halt view (halt.Ended ending) stands done.ended).1

-- a journal that has finished, where no position is struck, is complete
pub completed : (view : View) (ending : End) → Stands view → struck_now view ≡ None → HasFinished view ending
    → Complete (dependence_in view.batch) view.batch.faults view.events
completed view ending stands none done =
    record {
      lawful = stands.lawful;
      final = record { passed = passed; none_left = rw (none-due view none, known-ends view stands known, none-live view known none) refl };
      retired = done.retired ∙ passed;
    }
  where
    known : is_known view ≡ true
    known = ap is_some done.ended

    passed : (now view).progress.front ≡ (dependence_in view.batch).count
    passed = (known-halt view (halt.Ended ending) stands done.ended).0

some-halt : (o : Option Halt) → is_some o ≡ true → ((ending : End) × (o ≡ Some (halt.Ended ending))) ⊎ (o ≡ Some halt.Settling)
some-halt None e = absurd (false≢true e)
some-halt (Some (halt.Ended ending)) e = inl (ending, refl)
some-halt (Some halt.Settling) e = inr refl

-- at the end of a round with nothing out, nothing to post and no event, a position would have retired or been issued, or the run ended
stuck : (quieted issued posted : View) → Stands quieted → Stands issued → Stands posted → IsQuiet quieted
    → ((ending : End) → ¬ HasFinished quieted ending) → issued.batch ≡ quieted.batch → now posted ≡ now quieted → now posted ≡ now issued
    → IsIssued issued
    → NoneToPost posted 0 → AreTaken posted → (is_known issued ≡ true → is_known posted ≡ true)
    → (is_known quieted ≡ true) ⊎ (is_known posted ≡ false) → ⊥
stuck quieted issued posted stood begun stands quiet unfinished batch same same' answer none home kept known_so =
    elim answer [
      | inl ended ↦ elim known_so [
        | inl known ↦ waits known (ended_not ended.0 ended.1)
        | inr unknown ↦ both_ways (is_known posted) unknown (kept (ap is_some ended.1))
      ]
      | inr (inl waiting) ↦ elim known_so [
        | inl known ↦ waits known (waiting_not waiting.1)
        | inr unknown ↦ both_ways (is_known posted) unknown (kept (ap is_some waiting.0))
      ]
      | inr (inr awaited) ↦ awaited.2 (subst (λ at. WasTaken at awaited.0) same'
          (none-awaited posted stands none home awaited.0 (subst (λ at. awaited.0 < at.progress.front) (sym same') awaited.1)))
    ]
  where
    at_same : now issued ≡ now quieted
    at_same = sym same' ∙ same

    -- the oldest position would retire
    none_left : is_known quieted ≡ true → (now quieted).retired < (now quieted).progress.front → ⊥
    none_left known more =
        quiet.none_retires
        (record {
          issued = more;
          applied =
              subst (λ at. at.applied at.retired ≡ true) same
              (all-applied posted stands none home (now posted).retired (subst (λ at. at.retired < at.progress.front) (sym same) more));
          none_due = none-due quieted quiet.none_struck;
          safe = inr (known, none-live quieted known quiet.none_struck);
        })

    -- or else a settle comes next
    waits : is_known quieted ≡ true → (((now quieted).progress.front ≤ (now quieted).retired)
        → (dependence_in quieted.batch).settles (now quieted).progress.front ≡ true → ⊥) → ⊥
    waits known settling =
        elim (cases_lt (now quieted).retired (now quieted).progress.front) [
          | inl more ↦ none_left known more
          | inr all ↦ elim (some-halt quieted.ended known) [
            | inl ending ↦ unfinished ending.0
                (record { ended = ending.1; retired = let low = (stage-stands quieted stood).retired_low in omega arith })
            | inr is ↦ settling all (known-halt quieted halt.Settling stood is)
          ]
        ]

    ended_not : (ending : End) → issued.ended ≡ Some (halt.Ended ending) → (now quieted).progress.front ≤ (now quieted).retired
        → (dependence_in quieted.batch).settles (now quieted).progress.front ≡ true → ⊥
    ended_not ending is all settles =
        none-settles quieted.batch (now quieted).progress.front
        (ap (λ (at : Stage). at.progress.front) (sym at_same) ∙ (known-halt issued (halt.Ended ending) begun is).0
        ∙ ap (λ batch. (dependence_in batch).count) batch) settles

    waiting_not : (now issued).retired < (now issued).progress.front → (now quieted).progress.front ≤ (now quieted).retired
        → (dependence_in quieted.batch).settles (now quieted).progress.front ≡ true → ⊥
    waiting_not more all settles = let there = subst (λ (at : Stage). at.retired < at.progress.front) at_same more in omega arith

flag-most : (b : Bool) → cond b 0 1 ≤ 1
flag-most true = omega arith
flag-most false = omega arith

less-to-know : (first last : View) → left last < left first → left_to_know last < left_to_know first
less-to-know first last less = let flag = flag-most (is_known last) in omega arith

-- what goes on leaves no more to do, or to know
pub onward-to-know : (before after : View) → Onward before after → left_to_know after ≤ left_to_know before
onward-to-know before after onward =
    elim onward.moved [
      | inl less ↦ (let fewer = less-to-know before after less in omega arith)
      | inr rests ↦ go (is_known before) (is_known after) refl refl rests
    ]
  where
    go : (b c : Bool) → is_known before ≡ b → is_known after ≡ c → Rests before after → left_to_know after ≤ left_to_know before
    go true false e f rests = absurd (false≢true (sym f ∙ rests.known e))
    go true true e f rests = let same = left-same before after onward.batch rests.events in rw (e, f) (omega arith)
    go false true e f rests = let same = left-same before after onward.batch rests.events in rw (e, f) (omega arith)
    go false false e f rests = let same = left-same before after onward.batch rests.events in rw (e, f) (omega arith)

-- issues and posts after which nothing comes back leave less to do, or make the end known
idle-falls : (quieted issued posted : View) → Stands quieted → IsQuiet quieted → IsUnfinished quieted → Onward quieted issued
    → IsIssued issued → Onward issued posted → NoneToPost posted 0 → AreTaken posted → left_to_know posted < left_to_know quieted
idle-falls quieted issued posted stands quiet unfinished two answer three none home =
    elim two.moved [
      | inl less ↦ less-to-know quieted posted (let later = onward-most issued posted three in omega arith)
      | inr rests ↦ elim three.moved [
        | inl less ↦ less-to-know quieted posted (let earlier = onward-most quieted issued two in omega arith)
        | inr rests' ↦ go (is_known quieted) (is_known posted) refl refl rests rests'
      ]
    ]
  where
    impossible : Rests quieted issued → Rests issued posted → (is_known quieted ≡ true) ⊎ (is_known posted ≡ false) → ⊥
    impossible rests rests' =
        stuck quieted issued posted stands two.stands three.stands quiet unfinished two.batch
        (now-same quieted posted (three.batch ∙ two.batch) (rests'.events ∙ rests.events))
        (now-same issued posted three.batch rests'.events) answer none home rests'.known

    go : (b c : Bool) → is_known quieted ≡ b → is_known posted ≡ c → Rests quieted issued → Rests issued posted
        → left_to_know posted < left_to_know quieted
    go b false e f rests rests' = absurd (impossible rests rests' (inr f))
    go true true e f rests rests' = absurd (impossible rests rests' (inl e))
    go false true e f rests rests' =
        let same = left-same quieted posted (three.batch ∙ two.batch) (rests'.events ∙ rests.events) in rw (e, f) (omega arith)

-- issues, posts and one run of a task leave less to do, or make the end known
pub advance-falls : (quieted issued posted taken : View) (b : Bool) → Stands quieted → IsQuiet quieted → IsUnfinished quieted
    → Onward quieted issued → IsIssued issued → Onward issued posted → NoneToPost posted 0 → TakeGives posted taken b
    → left_to_know taken < left_to_know quieted
advance-falls quieted issued posted taken true stands quiet unfinished two answer three none less =
    less-to-know quieted taken
    (let earlier = onward-most quieted issued two in let later = onward-most issued posted three in omega arith)
advance-falls quieted issued posted taken false stands quiet unfinished two answer three none nothing =
    subst (λ v. left_to_know v < left_to_know quieted) (sym nothing.0)
    (idle-falls quieted issued posted stands quiet unfinished two answer three none nothing.1)
