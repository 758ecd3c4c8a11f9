-- What is out stays ready by locks, where posts wait by locks and restarts until all is back that they wait for.
use Rattle.std.proofs.Common.{◌≡◌, ℕ, zero, suc, ◌<◌, Bool, true, List, [], ◌∷◌, length, Contains, Some, refl, sym, subst, arith, slice_get}
use Rattle.gp_base.specs.declared.fault.Fault.{Fault}
use Rattle.gp_base.specs.declared.journal.Event.{Event}
use Rattle.gp_base.specs.declared.journal.Event.TheVariants as event
use Rattle.task_ast.specs.meaning.Plain.{Subthread}
use Rattle.dependence.specs.meaning.Conflict.{clash_in}
use Rattle.dependence.specs.meaning.Journal.{Stage, happens, Allowed}
use Rattle.dependence.specs.Posting.{KeepsReady, OutReady}
use Rattle.dependence.specs.RunBuffer.{IsOut}
use Rattle.dependence.specs.Runs.{lock_feet_of}
use Rattle.dependence.specs.Standing.{present, StageStands}
use Rattle.dependence.proofs.Posting.{out-ready, no-locks-clash}
use Rattle.whole_run.specs.declared.recovery.Recovery.{Recovery}
use Rattle.whole_run.specs.declared.recovery.Recovery.TheVariants.{Selective, Rollback}
use Rattle.whole_run.specs.Recovering.{recovering}
use Rattle.whole_run.specs.Gives.{IsBackBy, HasWaited}
use Rattle.whole_run.proofs.Recoverings.{redoes-conflicts}

pub slice_get_inside : {X : Type 0} (xs : List X) (k : ℕ) → k < length xs → (x : X) × (slice_get xs k ≡ Some x)
slice_get_inside [] k l = absurd (omega arith)
slice_get_inside (x ∷ xs) zero l = (x, refl)
slice_get_inside (x ∷ xs) (suc k) l = slice_get_inside xs k (omega arith)

-- what is out was posted at its present attempt, and that was not taken
pub present-posted : (at : Stage) (p attempt : ℕ) → IsOut at p attempt → Contains at.posted (p, present at p)
present-posted at p attempt out = subst (λ a. Contains at.posted (p, a)) out.present out.posted

pub present-untaken : (at : Stage) (p attempt : ℕ) → IsOut at p attempt → ¬ Contains at.taken (p, present at p)
present-untaken at p attempt out taken = out.untaken (subst (λ a. Contains at.taken (p, a)) (sym out.present) taken)

module _ (run : List Subthread) where
  abbrev locks : ℕ → ℕ → Bool
  locks = clash_in (lock_feet_of run)

  -- where a restart has waited, what is out waits for what is in conflict with it by locks: it holds no lock, or there is none
  clear-of-locks : (recovery : Recovery) (at : Stage) → ((p attempt : ℕ) → Contains at.posted (p, attempt) → p < length run)
      → IsBackBy recovery run at → (p attempt q : ℕ) → IsOut at p attempt → q < p → locks q p ≡ true
      → (recovering recovery run).clash q p ≡ true
  clear-of-locks Selective at within none p attempt q out less clash =
      let there = slice_get_inside run p (within p attempt out.posted) in
      no-locks-clash run p q there.0 there.1
      (none p there.0 there.1 (present-posted at p attempt out) (present-untaken at p attempt out)) clash
  clear-of-locks (Rollback every) at within none p attempt q out less clash = absurd (none p attempt out)

  module _ (faults : List Fault) (recovery : Recovery) (at : Stage) (stands : StageStands (recovering recovery run) faults at) where
    keeps-ready : (e : Event) → HasWaited recovery run at e → KeepsReady locks (recovering recovery run) at e
    keeps-ready (event.Issue p) waited = tt
    keeps-ready (event.Post p attempt) waited =
        record {
          issued = waited.issued;
          unretired = waited.unretired;
          present = waited.present;
          unposted = waited.unposted;
          ready = waited.ready;
        }
    keeps-ready (event.Take p attempt applies) waited = tt
    keeps-ready (event.Restart number) waited =
        clear-of-locks recovery at
        (λ p attempt there. let low = (stands.posted_low p attempt there).0 in let most = stands.front_low in omega arith) waited
    keeps-ready (event.Retire p) waited = tt

    pub stays-ready : (e : Event) → Allowed (recovering recovery run) faults at e → HasWaited recovery run at e → OutReady locks at
        → OutReady locks (happens (recovering recovery run) faults at e)
    stays-ready e allowed waited ready =
        out-ready (recovering recovery run) locks faults at e (redoes-conflicts run recovery) stands allowed (keeps-ready e waited) ready
