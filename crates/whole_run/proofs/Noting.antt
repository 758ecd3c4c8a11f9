-- What notes of a run are, as the run goes on, where it restarts selectively. The stage after an event and what is allowed are those of
-- selective restarts, and a history buffer stands beside them, so that LeftAt tells of what is applied that it left the same. Notes go
-- along: a result that applies is noted with what its attempt left, all else applies nothing, and what retires is the next of what the
-- plain run leaves.
use Rattle.std.proofs.Common.{◌≡◌, inl, inr, ℕ, suc, ◌≤◌, Bool, true, false, cond, List, [], ◌∷◌, ◌++◌, take, length, Option, Some, refl, sym, ap, subst, ◌∙◌, arith, add-one, slice_get}
use Rattle.std.specs.Prelude.{Ok, Err}
use Rattle.std.proofs.lemmas.Bool.{false≢true, cases_eq, eq-eqb, ne_eqb}
use Rattle.gp_base.specs.declared.journal.Event.{Event}
use Rattle.gp_base.specs.declared.journal.Event.TheVariants as event
use Rattle.gp_base.specs.declared.journal.Journal.{Journal}
use Rattle.gp_base.specs.declared.fault.Fault.{Fault}
use Rattle.task_ast.specs.declared.effect.Effect.{Effect}
use Rattle.task_ast.specs.meaning.State.{State}
use Rattle.task_ast.specs.meaning.Effect.{effect}
use Rattle.task_ast.specs.Damage.{damaged}
use Rattle.task_ast.specs.meaning.Layout.{layout}
use Rattle.task_ast.specs.Members.{member_of}
use Rattle.task_ast.specs.meaning.Plain.{Subthread}
use Rattle.task_ast.proofs.Runs.{order-is}
use Rattle.dependence.specs.Restarts.{mask_of}
use Rattle.dependence.specs.meaning.Journal.{Stage, Allowed, MayRetire, happens, stage, Lawful}
use Rattle.dependence.specs.meaning.Runs.{dependence_of}
use Rattle.dependence.specs.Standing.{present, StageStands}
use Rattle.dependence.specs.Touching.{done_by}
use Rattle.dependence.specs.Buffer.{Buffer}
use Rattle.dependence.specs.RunBuffer.{members_at, RunStands, buffer_after}
use Rattle.dependence.proofs.RunBuffers.{after-events}
use Rattle.subthread.specs.declared.task.Done.{Done}
use Rattle.subthread.specs.Tasks.{task_of, effect_of, IsRun}
use Rattle.subthread.specs.Joining.{Runs}
use Rattle.subthread.proofs.Joined.{runs_law}
use Rattle.crew.specs.meaning.Noted.{left_at, left_from}
use Rattle.crew.specs.Noted.{Telling, with_left, NotesNothing, NotesRetired, NotesPart}
use Rattle.reorder_list.specs.declared.report.Report.{Report}
use Rattle.reorder_list.specs.declared.report.EngineStop.{EngineStop}
use Rattle.whole_run.specs.declared.calls.Halt.{Halt}
use Rattle.whole_run.specs.declared.calls.Halt.TheVariants as halt
use Rattle.whole_run.specs.declared.calls.Issued.{Issued}
use Rattle.whole_run.specs.declared.calls.Issued.TheVariants.{One, Needs, Settles, Ended}
use Rattle.whole_run.specs.declared.recovery.Recovery.TheVariants.{Selective}
use Rattle.whole_run.specs.Recovering.{recovering}
use Rattle.whole_run.specs.View.{Batch, View, program_in, run_in, dependence_in, start_in, now, state_in, begun, grown, learnt, Stands}
use Rattle.whole_run.specs.Drive.{stage_in}
use Rattle.whole_run.specs.Gives.{Did, IssueGives, DetectGives, IsJournalOf}
use Rattle.whole_run.specs.Takes.{TaskStands}
use Rattle.whole_run.specs.Notes.{left_below, left_in, AreNotes, KeepsLeft, KeepsLeftBy, KeepsNotes, KeepsAllNotes, StopsNotes, NotesTaken, NotesRun}
use Rattle.whole_run.proofs.Events.{stage-stands, now-grown}
use Rattle.whole_run.proofs.Ready.{slice_get_inside}
use Rattle.whole_run.proofs.LeftAt.{AppliesNothing, left_then, KeepsAt, event-keeps, is-present, taken-here, taken-others, retired-plain, left-more, length-left}

-- ---- what is applied, and left the same

pub keeps-left-same : (before after : View) → after ≡ before → KeepsLeftBy before after
keeps-left-same before after same =
    subst (KeepsLeftBy before) (sym same) (λ selective. record { batch = refl; retired = refl; applied = λ p l e. (e, refl) })

pub keeps-left-then : (first second third : View) → KeepsLeftBy first second → KeepsLeftBy second third → KeepsLeftBy first third
keeps-left-then first second third one two selective =
    let a : KeepsLeft first second = one selective in
    let b : KeepsLeft second third = two (ap (λ (batch : Batch). batch.recovery) a.batch ∙ selective) in
    record {
      batch = b.batch ∙ a.batch;
      retired = b.retired ∙ a.retired;
      applied = λ p l e.
          let late = b.applied p (subst (λ n. n ≤ p) (sym a.retired) l) e in
          let early = a.applied p l late.0 in
          (early.0, late.1 ∙ early.1);
    }

-- a halt became known
pub keeps-left-learnt : (before after : View) (halts : Halt) → after ≡ learnt halts before → KeepsLeftBy before after
keeps-left-learnt before after halts same =
    subst (KeepsLeftBy before) (sym same) (λ selective. record { batch = refl; retired = refl; applied = λ p l e. (e, refl) })

-- ---- a run that restarts selectively

module _ (view : View) (stands : Stands view) (selective : view.batch.recovery ≡ Selective) where
  abbrev the_run : List Subthread
  the_run = run_in view.batch

  abbrev the_faults : List Fault
  the_faults = view.batch.faults

  abbrev the_start : State
  the_start = start_in view.batch

  stage-plain : StageStands (dependence_of the_run) the_faults (now view)
  stage-plain = subst (λ recovery. StageStands (recovering recovery the_run) the_faults (now view)) selective (stage-stands view stands)

  holds : RunStands the_run the_faults the_start (now view) (buffer_after the_run the_faults the_start view.events)
  holds =
      subst (λ (at : Stage). RunStands the_run the_faults the_start at (buffer_after the_run the_faults the_start view.events))
      (sym (ap (λ recovery. stage (recovering recovery the_run) the_faults view.events) selective))
      (after-events the_run the_faults the_start (λ c. refl) stands.short view.events
      (subst (λ recovery. Lawful (recovering recovery the_run) the_faults view.events) selective stands.lawful)).1

  now-after : (e : Event) → now (grown view e) ≡ happens (dependence_of the_run) the_faults (now view) e
  now-after e = now-grown view e ∙ ap (λ recovery. happens (recovering recovery the_run) the_faults (now view) e) selective

  allowed-plain : (e : Event) → Allowed (recovering view.batch.recovery the_run) the_faults (now view) e
      → Allowed (dependence_of the_run) the_faults (now view) e
  allowed-plain e allowed = subst (λ recovery. Allowed (recovering recovery the_run) the_faults (now view) e) selective allowed

  -- what the stage after an event keeps, the run keeps
  keeps-after : (e : Event) → KeepsAt the_run the_faults the_start (now view) (happens (dependence_of the_run) the_faults (now view) e)
      → KeepsLeft view (grown view e)
  keeps-after e kept =
      let same = now-after e in
      record {
        batch = refl;
        retired = ap (λ (at : Stage). at.retired) same ∙ kept.retired;
        applied = λ p l is.
            let was = kept.applied p (subst (λ (at : Stage). at.applied p ≡ true) same is) in
            (was.0, ap (λ (at : Stage). left_then the_run the_faults the_start at p) same ∙ was.1);
      }

  grown-keeps : (e : Event) → AppliesNothing e → KeepsLeft view (grown view e)
  grown-keeps e nothing =
      keeps-after e (event-keeps the_run the_faults the_start (now view)
      (buffer_after the_run the_faults the_start view.events) stage-plain holds e nothing)

pub did-keeps-left : (before after : View) (e : Event) → Stands before → Did before e after → AppliesNothing e → KeepsLeftBy before after
did-keeps-left before after e stands did nothing =
    subst (KeepsLeftBy before) (sym did.grown) (λ selective. grown-keeps before stands selective e nothing)

pub issue-keeps-left : (before after : View) (answer : Issued) → Stands before → IssueGives before after answer → KeepsLeftBy before after
issue-keeps-left before after (One p) stands gives = did-keeps-left before after (event.Issue p) stands gives.0 tt
issue-keeps-left before after (Needs t) stands gives = keeps-left-same before after gives.0
issue-keeps-left before after (Settles t) stands gives = keeps-left-learnt before after halt.Settling gives.0
issue-keeps-left before after (Ended ending) stands gives = keeps-left-learnt before after (halt.Ended ending) gives.0

pub detect-keeps-left : (before after : View) (answer : Bool) → Stands before → DetectGives before after answer → KeepsLeftBy before after
detect-keeps-left before after true stands gives =
    did-keeps-left before after (event.Restart (length (now before).progress.made)) stands gives.0 tt
detect-keeps-left before after false stands gives = keeps-left-same before after gives.0

-- ---- the notes stay those of the run

-- where nothing was noted, and what is applied was so before
keeps-nothing : (before after : View) (telling later : Telling) → KeepsLeftBy before after → NotesNothing telling later
    → KeepsAllNotes before after telling later
keeps-nothing before after telling later left nothing written selective start notes =
    let kept : KeepsLeft before after = left selective in
    record {
      left = notes.left;
      told = nothing start written notes.left (left_below after.batch (now after).retired)
          (subst (telling start written notes.left) (λ i. left_below (sym kept.batch i) (sym kept.retired i)) notes.told);
      noted = λ p l e.
          let was = kept.applied p (subst (λ n. n ≤ p) kept.retired l) e in
          notes.noted p (subst (λ n. n ≤ p) kept.retired l) was.0 ∙ ap Some (sym was.1);
    }

pub keeps-notes-left : (before after : View) (telling : Telling) → KeepsLeftBy before after → KeepsAllNotes before after telling telling
keeps-notes-left before after telling left = keeps-nothing before after telling telling left (λ start written noted told tells. tells)

pub keeps-notes-nothing : (before after : View) (telling later : Telling) → after ≡ before → NotesNothing telling later
    → KeepsAllNotes before after telling later
keeps-notes-nothing before after telling later same nothing =
    keeps-nothing before after telling later (keeps-left-same before after same) nothing

pub keeps-notes-then : (first second third : View) (telling mid later : Telling) (written written' written'' : Option (List ℕ))
    → second.batch ≡ first.batch
    → KeepsNotes first second telling mid written written' → KeepsNotes second third mid later written' written''
    → KeepsNotes first third telling later written written''
keeps-notes-then first second third telling mid later written written' written'' batch one two selective start notes =
    two (ap (λ (b : Batch). b.recovery) batch ∙ selective) start (one selective start notes)

pub keeps-all-then : (first second third : View) (telling mid later : Telling) → second.batch ≡ first.batch
    → KeepsAllNotes first second telling mid → KeepsAllNotes second third mid later → KeepsAllNotes first third telling later
keeps-all-then first second third telling mid later batch one two written =
    keeps-notes-then first second third telling mid later written written written batch (one written) (two written)

-- after a result that applies
module _ (before : View) (done : Done) (stands : Stands before) (task : TaskStands before (task_of before.batch.work done))
    (run : IsRun before.batch.work done) where
  abbrev p : ℕ
  p = done.task.pos

  abbrev attempt : ℕ
  attempt = done.task.attempt

  abbrev s : Subthread
  s = task.is_task.subthread

  abbrev e : Event
  e = event.Take p attempt true

  abbrev left_by : Effect
  left_by = effect_of before.batch.work done

  runs : Runs before.batch.work before.batch.inputs before.batch.limits p s done
  runs =
      runs_law before.batch.work (layout (program_in before.batch).heads) before.batch.inputs before.batch.limits stands.suits p s done
      task.is_task.is_of run

  -- its attempt did what its position does where the run stands
  done-here : attempt ≡ present (now before) p
      → left_by ≡ done_by (members_at (run_in before.batch) before.batch.faults (now before) p) (state_in before)
  done-here is =
      runs.on (state_in before) (task.given is)
      ∙ (ap (λ mask. damaged mask (effect s.thread s.begins.sync s.child s.actions (state_in before)))
      (task.is_task.mask ∙ ap (mask_of before.batch.faults p) is)
      ∙ ap (λ o. done_by (member_of (mask_of before.batch.faults p (present (now before) p)) o) (state_in before))
      (sym task.is_task.is_of.position))

  module _ (allowed : Allowed (dependence_in before.batch) before.batch.faults (now before) e)
      (selective : before.batch.recovery ≡ Selective) where
    may : Allowed (dependence_of (run_in before.batch)) before.batch.faults (now before) e
    may = allowed-plain before stands selective e allowed

    abbrev buffer : Buffer
    buffer = buffer_after (run_in before.batch) before.batch.faults (start_in before.batch) before.events

    same : now (grown before e) ≡ happens (dependence_of (run_in before.batch)) before.batch.faults (now before) e
    same = now-after before stands selective e

    grown-left : left_in (grown before e) p ≡ left_by
    grown-left =
        ap (λ (at : Stage). left_then (run_in before.batch) before.batch.faults (start_in before.batch) at p) same
        ∙ (taken-here (run_in before.batch) before.batch.faults (start_in before.batch) (now before) buffer
        (stage-plain before stands selective) (holds before stands selective) p attempt may
        ∙ sym (done-here
        (is-present (run_in before.batch) before.batch.faults (start_in before.batch) (now before) buffer
        (stage-plain before stands selective) (holds before stands selective) p attempt may)))

    grown-others : (q : ℕ) → (q ≡ p → ⊥) → (now (grown before e)).applied q ≡ true
        → ((now before).applied q ≡ true) × (left_in (grown before e) q ≡ left_in before q)
    grown-others q ne is =
        let was =
        taken-others (run_in before.batch) before.batch.faults (start_in before.batch) (now before) buffer
        (stage-plain before stands selective) (holds before stands selective) p attempt may q ne
        (subst (λ (at : Stage). at.applied q ≡ true) same is) in
        (was.0, ap (λ (at : Stage). left_then (run_in before.batch) before.batch.faults (start_in before.batch) at q) same ∙ was.1)

    grown-retired : (now (grown before e)).retired ≡ (now before).retired
    grown-retired = ap (λ (at : Stage). at.retired) same

    grown-notes : (telling later : Telling) → NotesTaken true telling later p left_by → (start written : Option (List ℕ))
        → AreNotes telling before start written → AreNotes later (grown before e) start written
    grown-notes telling later noted start written notes =
        record {
          left = with_left p left_by notes.left;
          told = subst (λ n. later start written (with_left p left_by notes.left) (left_below before.batch n)) (sym grown-retired)
              (noted start written notes.left (left_below before.batch (now before).retired) notes.told);
          noted = λ q l is. elim (cases_eq q p) [
            | inl here ↦ ap (λ b. cond b (Some left_by) (notes.left q)) (eq-eqb q p here)
                ∙ ap Some (sym (ap (left_in (grown before e)) here ∙ grown-left))
            | inr ne ↦ ap (λ b. cond b (Some left_by) (notes.left q)) (ne_eqb q p ne)
                ∙ (notes.noted q (subst (λ n. n ≤ q) grown-retired l) (grown-others q ne is).0
                ∙ ap Some (sym (grown-others q ne is).1))
          ];
        }

-- a result was taken
module _ (before after : View) (done : Done) (stands : Stands before) (task : TaskStands before (task_of before.batch.work done))
    (run : IsRun before.batch.work done) where
  pub taken-left : Did before (event.Take done.task.pos done.task.attempt true) after → before.batch.recovery ≡ Selective
      → left_in after done.task.pos ≡ effect_of before.batch.work done
  taken-left did selective =
      subst (λ v. left_in v done.task.pos ≡ effect_of before.batch.work done) (sym did.grown)
      (grown-left before done stands task run did.allowed selective)

  pub notes-taken : (applies : Bool) (telling later : Telling) → Did before (event.Take done.task.pos done.task.attempt applies) after
      → NotesTaken applies telling later done.task.pos (effect_of before.batch.work done) → KeepsAllNotes before after telling later
  notes-taken true telling later did noted =
      λ written selective start notes.
      subst (λ v. AreNotes later v start written) (sym did.grown)
      (grown-notes before done stands task run did.allowed selective telling later noted start written notes)
  notes-taken false telling later did noted =
      keeps-nothing before after telling later
      (did-keeps-left before after (event.Take done.task.pos done.task.attempt false) stands did refl) noted

-- ---- a position retires

-- it left what its subthread leaves in the plain run
pub retired-left : (before after : View) (p : ℕ) (s : Subthread) → Stands before → before.batch.recovery ≡ Selective
    → Did before (event.Retire p) after → slice_get (run_in before.batch) p ≡ Some s
    → left_in before p ≡ left_at (program_in before.batch) before.batch.inputs before.batch.limits p s
retired-left before after p s stands selective did there =
    retired-plain (program_in before.batch) before.batch.inputs before.batch.limits before.batch.faults stands.short (now before) p s
    (stage-plain before stands selective) (allowed-plain before stands selective (event.Retire p) did.allowed) there

-- what the plain run leaves, by the order of the general turn
left-by-order : (batch : Batch) (p : ℕ)
    → left_below batch p ≡ take p (left_from (program_in batch) batch.inputs batch.limits 0 (run_in batch))
left-by-order batch p =
    ap (λ run. take p (left_from (program_in batch) batch.inputs batch.limits 0 run))
    (order-is (program_in batch) batch.inputs batch.limits)

pub left-below-more : (before after : View) (p : ℕ) → Stands before → before.batch.recovery ≡ Selective → Did before (event.Retire p) after
    → left_below before.batch (suc p) ≡ left_below before.batch p ++ left_in before p ∷ []
left-below-more before after p stands selective did =
    let may : MayRetire (dependence_of (run_in before.batch)) before.batch.faults (now before) p =
    allowed-plain before stands selective (event.Retire p) did.allowed in
    let issued = may.issued in
    let low = (stage-plain before stands selective).front_low in
    let there = slice_get_inside (run_in before.batch) p (omega arith) in
    left-by-order before.batch (suc p)
    ∙ (left-more (program_in before.batch) before.batch.inputs before.batch.limits 0 (run_in before.batch) p p there.0 there.1 (omega arith)
    ∙ (λ i. sym (left-by-order before.batch p) i ++ sym (retired-left before after p there.0 stands selective did there.1) i ∷ []))

module _ (before after : View) (p : ℕ) (stands : Stands before) (did : Did before (event.Retire p) after)
    (selective : before.batch.recovery ≡ Selective) where
  may-retire : MayRetire (dependence_of (run_in before.batch)) before.batch.faults (now before) p
  may-retire = allowed-plain before stands selective (event.Retire p) did.allowed

  stage-then : now (grown before (event.Retire p))
      ≡ happens (dependence_of (run_in before.batch)) before.batch.faults (now before) (event.Retire p)
  stage-then = now-after before stands selective (event.Retire p)

  retired-then : (now (grown before (event.Retire p))).retired ≡ suc p
  retired-then = ap (λ (at : Stage). at.retired) stage-then ∙ add-one p

  -- it is the next one
  told-many : p ≡ length (left_below before.batch (now before).retired)
  told-many =
      let low = (stage-plain before stands selective).retired_low in
      let front = (stage-plain before stands selective).front_low in
      may-retire.oldest
      ∙ sym (ap length (left-by-order before.batch (now before).retired)
      ∙ length-left (program_in before.batch) before.batch.inputs before.batch.limits 0 (run_in before.batch)
      (now before).retired (omega arith))

  -- with it the log has what is below the next one
  told-then : left_below before.batch (now before).retired ++ left_in before p ∷ []
      ≡ left_below before.batch (now (grown before (event.Retire p))).retired
  told-then =
      ap (λ n. left_below before.batch n ++ left_in before p ∷ []) (sym may-retire.oldest)
      ∙ (sym (left-below-more before after p stands selective did) ∙ ap (left_below before.batch) (sym retired-then))

  noted-here : (telling : Telling) (start written : Option (List ℕ)) → (notes : AreNotes telling before start written)
      → notes.left p ≡ Some (left_in before p)
  noted-here telling start written notes =
      notes.noted p (let same = may-retire.oldest in omega arith) may-retire.applied

  retired-notes : (telling later : Telling) (written written' : Option (List ℕ)) → NotesRetired telling later written written' p
      → (start : Option (List ℕ)) → AreNotes telling before start written → AreNotes later (grown before (event.Retire p)) start written'
  retired-notes telling later written written' told start notes =
      record {
        left = notes.left;
        told = subst (later start written' notes.left) told-then
            (told start notes.left (left_below before.batch (now before).retired) (left_in before p) notes.told told-many
            (noted-here telling start written notes));
        noted = λ q l is.
            notes.noted q (below q (subst (λ n. n ≤ q) retired-then l)) (subst (λ (at : Stage). at.applied q ≡ true) stage-then is)
            ∙ ap Some (sym (ap (λ (at : Stage). left_then (run_in before.batch) before.batch.faults (start_in before.batch) at q)
            stage-then));
      }
    where
      below : (q : ℕ) → suc p ≤ q → (now before).retired ≤ q
      below q l = let same = may-retire.oldest in omega arith

  retired-part : (telling : Telling) (part : (start written : Option (List ℕ)) → List Effect → Type 0) (written written' : Option (List ℕ))
      → NotesPart telling part written written' p → (start : Option (List ℕ)) → AreNotes telling before start written
      → part start written' (left_below before.batch (now (grown before (event.Retire p))).retired)
  retired-part telling part written written' told start notes =
      subst (part start written') told-then
      (told start notes.left (left_below before.batch (now before).retired) (left_in before p) notes.told told-many
      (noted-here telling start written notes))

pub notes-told : (before after : View) (p : ℕ) (telling later : Telling) (written written' : Option (List ℕ)) → Stands before
    → Did before (event.Retire p) after → NotesRetired telling later written written' p
    → KeepsNotes before after telling later written written'
notes-told before after p telling later written written' stands did told selective start notes =
    subst (λ v. AreNotes later v start written') (sym did.grown)
    (retired-notes before after p stands did selective telling later written written' told start notes)

pub notes-part : (before after : View) (p : ℕ) (telling later : Telling) (part : (start written : Option (List ℕ)) → List Effect → Type 0)
    (written written' : Option (List ℕ)) → Stands before → Did before (event.Retire p) after → NotesPart telling part written written' p
    → StopsNotes before after telling later part written written'
notes-part before after p telling later part written written' stands did told selective start notes =
    inr (subst (λ (v : View). part start written' (left_below v.batch (now v).retired)) (sym did.grown)
    (retired-part before after p stands did selective telling part written written' told start notes))

pub keeps-stops : (before after : View) (telling later : Telling) (part : (start written : Option (List ℕ)) → List Effect → Type 0)
    (written written' : Option (List ℕ)) → KeepsNotes before after telling later written written'
    → StopsNotes before after telling later part written written'
keeps-stops before after telling later part written written' kept selective start notes = inl (kept selective start notes)

pub stops-then : (first second third : View) (telling mid later : Telling) (part : (start written : Option (List ℕ)) → List Effect → Type 0)
    (written written' written'' : Option (List ℕ)) → second.batch ≡ first.batch → KeepsNotes first second telling mid written written'
    → StopsNotes second third mid later part written' written'' → StopsNotes first third telling later part written written''
stops-then first second third telling mid later part written written' written'' batch kept stops selective start notes =
    stops (ap (λ (b : Batch). b.recovery) batch ∙ selective) start (kept selective start notes)

-- ---- the whole run

pub notes-begun : (batch : Batch) (telling : Telling) (start written : Option (List ℕ)) (left : ℕ → Option Effect)
    → telling start written left []
    → AreNotes telling (begun batch) start written
notes-begun batch telling start written left told = record { left = left; told = told; noted = λ p l e. absurd (false≢true e) }

-- what the last events retired is what the journal retires
told-is : (first last : View) (journal : Journal) → last.batch ≡ first.batch → IsJournalOf last journal
    → left_below last.batch (now last).retired ≡ left_below first.batch (stage_in first.batch journal).retired
told-is first last journal batch is =
    λ i. left_below (batch i) (stage (dependence_in (batch i)) (batch i).faults (sym is.events i)).retired

first-notes : (first : View) (telling : Telling) (start written : Option (List ℕ)) (left : ℕ → Option Effect) → first ≡ begun first.batch
    → telling start written left [] → AreNotes telling first start written
first-notes first telling start written left begins told =
    subst (λ v. AreNotes telling v start written) (sym begins) (notes-begun first.batch telling start written left told)

-- it came to its end
pub notes-finished : (first last : View) (telling later : Telling) (part : (start written : Option (List ℕ)) → List Effect → Type 0)
    (written written' : Option (List ℕ)) (report : Report) → first ≡ begun first.batch → last.batch ≡ first.batch
    → IsJournalOf last report.journal
    → KeepsNotes first last telling later written written' → NotesRun telling later part first.batch written written' (Ok report)
notes-finished first last telling later part written written' report begins batch journal kept selective start left told =
    let notes : AreNotes later last start written' =
    kept selective start (first-notes first telling start written left begins told) in
    inl (notes.left, subst (later start written' notes.left) (told-is first last report.journal batch journal) notes.told)

-- it stopped
pub notes-stopped : (first last : View) (telling later : Telling) (part : (start written : Option (List ℕ)) → List Effect → Type 0)
    (written written' : Option (List ℕ)) (stop : EngineStop) → first ≡ begun first.batch → last.batch ≡ first.batch
    → IsJournalOf last stop.journal
    → StopsNotes first last telling later part written written' → NotesRun telling later part first.batch written written' (Err stop)
notes-stopped first last telling later part written written' stop begins batch journal stops selective start left told =
    elim (stops selective start (first-notes first telling start written left begins told)) [
      | inl notes ↦ inl (notes.left, subst (later start written' notes.left) (told-is first last stop.journal batch journal) notes.told)
      | inr partly ↦ inr (refl, subst (part start written') (told-is first last stop.journal batch journal) partly)
    ]
