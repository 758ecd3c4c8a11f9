-- What stands after an event, and how much of the run is left.
use Rattle.std.proofs.Common.{◌≡◌, inl, inr, ℕ, ◌<◌, ◌≤◌, List, Option, Some, None, refl, sym, ap, subst, ◌∙◌, arith, IfSome}
use Rattle.whole_run.specs.declared.calls.Halt.{Halt}
use Rattle.gp_base.specs.declared.fault.Fault.{Fault}
use Rattle.gp_base.specs.declared.journal.Event.{Event}
use Rattle.gp_base.specs.declared.journal.Event.TheVariants as event
use Rattle.task_ast.specs.meaning.Plain.{Subthread}
use Rattle.dependence.specs.meaning.Restarts.{struck_next}
use Rattle.dependence.specs.Restarts.{RedoesStruck}
use Rattle.dependence.specs.meaning.Journal.{Stage, initial_stage, happens, restarted, stage, Allowed, Lawful}
use Rattle.dependence.specs.Posting.{OutReady}
use Rattle.dependence.specs.Standing.{AreShort, StageStands}
use Rattle.dependence.proofs.Journals.{stage_from-push}
use Rattle.dependence.proofs.Measured.{leaves-less}
use Rattle.dependence.proofs.Standing.{run-stands}
use Rattle.whole_run.specs.declared.recovery.Recovery.{Recovery}
use Rattle.whole_run.specs.declared.recovery.Recovery.TheVariants.{Selective, Rollback}
use Rattle.whole_run.specs.Recovering.{recovering}
use Rattle.whole_run.specs.View.{Batch, View, run_in, dependence_in, locks_in, now, ended_after, grown, learnt, IsHalt, Stands}
use Rattle.whole_run.specs.Gives.{HasWaited, Did}
use Rattle.whole_run.specs.inner.Rounds.{left, Onward}
use Rattle.whole_run.proofs.Folds.{blocks-after}
use Rattle.whole_run.proofs.Ready.{stays-ready}
use Rattle.whole_run.proofs.Recoverings.{lawful-push}
use Rattle.whole_run.proofs.Recoverings as recoverings

pub redoes-struck : (batch : Batch) → RedoesStruck (dependence_in batch)
redoes-struck batch = recoverings.redoes-struck (run_in batch) batch.recovery

stands-by : (run : List Subthread) (faults : List Fault) → AreShort faults → (recovery : Recovery) (events : List Event)
    → Lawful (recovering recovery run) faults events
    → StageStands (recovering recovery run) faults (stage (recovering recovery run) faults events)
stands-by run faults short Selective events lawful = run-stands run faults events short lawful
stands-by run faults short (Rollback every) events lawful = (blocks-after run faults short every events lawful).stands

pub stage-stands : (view : View) → Stands view → StageStands (dependence_in view.batch) view.batch.faults (now view)
stage-stands view stands = stands-by (run_in view.batch) view.batch.faults stands.short view.batch.recovery view.events stands.lawful

-- the stage after one event more
pub now-grown : (view : View) (e : Event) → now (grown view e) ≡ happens (dependence_in view.batch) view.batch.faults (now view) e
now-grown view e = stage_from-push (dependence_in view.batch) view.batch.faults initial_stage view.events e

-- a known halt is one until the next issue
abbrev Draining : View → Option Halt → Stage → Type 0
Draining view ended at = IfSome ended (IsHalt view.batch at.progress.front)

still-drains : (view : View) → Stands view → (e : Event)
    → Draining view (ended_after e view.ended) (happens (dependence_in view.batch) view.batch.faults (now view) e)
still-drains view stands (event.Issue p) = tt
still-drains view stands (event.Post p attempt) = stands.ended
still-drains view stands (event.Take p attempt applies) = stands.ended
still-drains view stands (event.Restart number) = go (struck_next (dependence_in view.batch) view.batch.faults (now view).progress)
  where
    go : (o : Option ℕ) → Draining view view.ended (restarted (dependence_in view.batch) (now view) o)
    go None = stands.ended
    go (Some p) = stands.ended
still-drains view stands (event.Retire p) = stands.ended

module _ (view : View) (e : Event) (stands : Stands view)
    (allowed : Allowed (dependence_in view.batch) view.batch.faults (now view) e) where
  grown-stands : HasWaited view.batch.recovery (run_in view.batch) (now view) e → Stands (grown view e)
  grown-stands waited =
      record {
        suits = stands.suits;
        short = stands.short;
        lawful = lawful-push (run_in view.batch) view.batch.faults view.batch.recovery view.events e stands.lawful allowed;
        ready = subst (OutReady (locks_in view.batch)) (sym (now-grown view e))
            (stays-ready (run_in view.batch) view.batch.faults view.batch.recovery (now view) (stage-stands view stands) e allowed waited
            stands.ready);
        ended = subst (Draining view (ended_after e view.ended)) (sym (now-grown view e)) (still-drains view stands e);
      }

  grown-leaves : left (grown view e) < left view
  grown-leaves =
      rw (now-grown view e)
      (leaves-less (dependence_in view.batch) (redoes-struck view.batch) view.batch.faults (now view) e (stage-stands view stands).front_low
      allowed)

pub did-stands : (before after : View) (e : Event) → Stands before → Did before e after → Stands after
did-stands before after e stands did = subst Stands (sym did.grown) (grown-stands before e stands did.allowed did.waited)

pub did-leaves : (before after : View) (e : Event) → Stands before → Did before e after → left after < left before
did-leaves before after e stands did = subst (λ v. left v < left before) (sym did.grown) (grown-leaves before e stands did.allowed)

pub did-onward : (before after : View) (e : Event) → Stands before → Did before e after → Onward before after
did-onward before after e stands did =
    record {
      batch = ap (λ v. v.batch) did.grown;
      stands = did-stands before after e stands did;
      moved = inl (did-leaves before after e stands did);
    }

-- the stage after an event that was made
pub now-did : (before after : View) (e : Event) → Did before e after
    → now after ≡ happens (dependence_in before.batch) before.batch.faults (now before) e
now-did before after e did = ap now did.grown ∙ now-grown before e

-- the run rests
pub still-onward : (view : View) → Stands view → Onward view view
still-onward view stands = record { batch = refl; stands = stands; moved = inr (record { events = refl; known = λ known. known }) }

pub same-onward : (before after : View) → Stands before → after ≡ before → Onward before after
same-onward before after stands same = subst (Onward before) (sym same) (still-onward before stands)

-- a halt became known
pub learnt-onward : (before after : View) (halts : Halt) → Stands before → after ≡ learnt halts before
    → IsHalt before.batch (now before).progress.front halts → Onward before after
learnt-onward before after halts stands same is_halt =
    subst (Onward before) (sym same)
    (record {
      batch = refl;
      stands = record { suits = stands.suits; short = stands.short; lawful = stands.lawful; ready = stands.ready; ended = is_halt };
      moved = inr (record { events = refl; known = λ known. refl });
    })

-- what is left is a matter of the batch and the events
pub left-same : (before after : View) → after.batch ≡ before.batch → after.events ≡ before.events → left after ≡ left before
left-same before after batch events = rw (batch, events) refl

pub now-same : (before after : View) → after.batch ≡ before.batch → after.events ≡ before.events → now after ≡ now before
now-same before after batch events = rw (batch, events) refl

pub onward-then : (first second third : View) → Onward first second → Onward second third → Onward first third
onward-then first second third one two =
    record {
      batch = two.batch ∙ one.batch;
      stands = two.stands;
      moved = elim one.moved [
        | inl less ↦ elim two.moved [
          | inl again ↦ inl (omega arith)
          | inr rests ↦ inl (let e = left-same second third two.batch rests.events in omega arith)
        ]
        | inr rests ↦ elim two.moved [
          | inl less ↦ inl (let e = left-same first second one.batch rests.events in omega arith)
          | inr again ↦ inr (record { events = again.events ∙ rests.events; known = λ known. again.known (rests.known known) })
        ]
      ];
    }

pub onward-most : (before after : View) → Onward before after → left after ≤ left before
onward-most before after onward =
    elim onward.moved [ inl less ↦ omega arith | inr rests ↦ (let e = left-same before after onward.batch rests.events in omega arith) ]
