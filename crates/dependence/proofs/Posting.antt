-- Posting by locks: what is posted so may be posted, and what is out stays ready. Where each conflict of the run is one
-- by locks too (IsWithin), a post that waits by locks has waited for all that it must. A run is so, since a record cell
-- that two subthreads touch stands under one lock, which both hold, and registers stand in both footprints. With a
-- subthread that holds no lock only registers are in common.
use Rattle.std.proofs.Common.{◌≡◌, inl, inr, ℕ, zero, suc, ◌<◌, Bool, true, false, cond, List, [], ◌∷◌, length, get_or, map, Contains, Option, Some, None, refl, ap, subst, ◌∙◌, arith, nat_eq, ◌&&◌, slice_get, ◌+◌}
use Rattle.std.proofs.lemmas.Bool.{both_ways, or_right}
use Rattle.std.proofs.lemmas.List.Elements.{Contains-push_cases, Contains-append_left}
use Rattle.gp_base.specs.declared.fault.Fault.{Fault}
use Rattle.gp_base.specs.declared.footprint.Loc.{Loc}
use Rattle.gp_base.specs.declared.footprint.Loc.TheVariants as loc
use Rattle.gp_base.specs.declared.footprint.Footprint.{Footprint}
use Rattle.gp_base.specs.declared.journal.Event.{Event}
use Rattle.gp_base.specs.declared.journal.Event.TheVariants as event
use Rattle.task_ast.specs.meaning.Footprint.{named_by, joined_registers, child_registers}
use Rattle.task_ast.specs.meaning.Plain.{Subthread, foot_of}
use Rattle.task_ast.specs.Plain.{lock_foot_of}
use Rattle.dependence.specs.meaning.Conflict.{foot_at}
use Rattle.dependence.specs.Conflict.{Shared, Conflict}
use Rattle.dependence.specs.meaning.Dependents.{is_member}
use Rattle.dependence.specs.meaning.Restarts.{Dependence, struck_next, restart_of}
use Rattle.dependence.specs.meaning.Journal.{Stage, happens, restarted, MayPost}
use Rattle.dependence.specs.meaning.Runs.{feet_of}
use Rattle.dependence.specs.Runs.{lock_feet_of}
use Rattle.dependence.specs.Standing.{present, RedoesConflicts, StageStands}
use Rattle.dependence.specs.RunBuffer.{IsOut}
use Rattle.dependence.specs.Posting.{by_locks, OutReady, KeepsReady, PostLaw, OutReadyLaw, RunWithinLaw, NoLocksLaw}
use Rattle.dependence.proofs.Conflicting.{conflicting-is}
use Rattle.dependence.proofs.DependentSets.{is_member-is}
use Rattle.dependence.proofs.RestartEnds.{attempt-push}
use Rattle.dependence.proofs.LockClashes.{split-append, AreRegisters, one_register, no_registers, child_are, joined_are, locks-clash}

pub post-by-locks : PostLaw
post-by-locks dependence locks at p attempt within may =
    record {
      issued = may.issued;
      unretired = may.unretired;
      present = may.present;
      unposted = may.unposted;
      ready = λ earlier less clash. may.ready earlier less (within earlier p clash);
    }

module _ (dependence : Dependence) (locks : ℕ → ℕ → Bool) (faults : List Fault) (at : Stage) (redoes_all : RedoesConflicts dependence)
    (stands : StageStands dependence faults at) (was : OutReady locks at) where
  post-ready : (p attempt : ℕ) → MayPost (by_locks locks dependence) at p attempt
      → OutReady locks (happens dependence faults at (event.Post p attempt))
  post-ready p attempt may q a r out less clash =
      elim (Contains-push_cases at.posted (p, attempt) (q, a) out.posted) [
        | inl old ↦ was q a r (record { posted = old; untaken = out.untaken; present = out.present }) less clash
        | inr new ↦ (let e : p ≡ q = ap (λ x. x.0) new in may.ready r (omega arith) (ap (locks r) e ∙ clash))
      ]

  take-ready : (p attempt : ℕ) (applies : Bool) → OutReady locks (happens dependence faults at (event.Take p attempt applies))
  take-ready p attempt applies q a r out less clash =
      or_right (applies && nat_eq r p) (at.applied r)
      (was q a r (record {
        posted = out.posted;
        untaken = λ h. out.untaken (Contains-append_left at.taken ((p, attempt) ∷ []) (q, a) h);
        present = out.present;
      }) less clash)

  restart-ready : (o : Option ℕ) → ((p attempt q : ℕ) → IsOut at p attempt → q < p → locks q p ≡ true → dependence.clash q p ≡ true)
      → OutReady locks (restarted dependence at o)
  restart-ready None home q a r out less clash = was q a r out less clash
  restart-ready (Some p) home q a r out less clash = go (is_redone q) refl
    where
      is_redone : ℕ → Bool
      is_redone q = is_member q (dependence.redo p at.progress.front)

      later : ℕ → ℕ
      later q = present (restarted dependence at (Some p)) q

      kept : is_redone q ≡ false → later q ≡ present at q
      kept f = let h = rw f at (attempt-push at.progress.made (restart_of dependence at.progress p) q) in omega arith

      raised : is_redone q ≡ true → later q ≡ present at q + 1
      raised f = rw f at (attempt-push at.progress.made (restart_of dependence at.progress p) q)

      go : (b : Bool) → is_redone q ≡ b → cond (is_redone r) false (at.applied r) ≡ true
      go true f = absurd (let h = (stands.posted_low q a out.posted).1 in let k = raised f in let e = out.present in omega arith)
      go false f = still (is_redone r) refl
        where
          old : IsOut at q a
          old = record { posted = out.posted; untaken = out.untaken; present = out.present ∙ kept f }

          still : (b : Bool) → is_redone r ≡ b → cond b false (at.applied r) ≡ true
          still true g = absurd (both_ways (is_redone q) f ((is_member-is q (dependence.redo p at.progress.front)).1
              (redoes_all.closed p at.progress.front r q ((is_member-is r (dependence.redo p at.progress.front)).0 g) less
              (stands.posted_low q a out.posted).0 (home q a r old less clash))))
          still false g = was q a r old less clash

  happens-ready : (e : Event) → KeepsReady locks dependence at e → OutReady locks (happens dependence faults at e)
  happens-ready (event.Issue p) keeps q a r out less clash =
      was q a r (record { posted = out.posted; untaken = out.untaken; present = out.present }) less clash
  happens-ready (event.Post p attempt) keeps q a r out less clash = post-ready p attempt keeps q a r out less clash
  happens-ready (event.Take p attempt applies) keeps q a r out less clash = take-ready p attempt applies q a r out less clash
  happens-ready (event.Restart number) keeps q a r out less clash =
      restart-ready (struck_next dependence faults at.progress) keeps q a r out less clash
  happens-ready (event.Retire p) keeps q a r out less clash =
      was q a r (record { posted = out.posted; untaken = out.untaken; present = out.present }) less clash

pub out-ready : OutReadyLaw
out-ready dependence locks faults at e redoes stands allowed keeps was = happens-ready dependence locks faults at redoes stands was e keeps

pub run-within : RunWithinLaw
run-within under run once held p q clash =
    (conflicting-is (foot_at (lock_feet_of run) p) (foot_at (lock_feet_of run) q)).1
    (locks-clash under run p q once held ((conflicting-is (foot_at (feet_of run) p) (foot_at (feet_of run) q)).0 clash))

-- each register of the lock footprint stands in the footprint
record HasRegisters (foot locks : Footprint) : Type 0 where
  reads : (t : ℕ) → Contains locks.reads (loc.Regs t) → Contains foot.reads (loc.Regs t)
  writes : (t : ℕ) → Contains locks.writes (loc.Regs t) → Contains foot.writes (loc.Regs t)

-- a lock cell is no register
no_register : (cells : List ℕ) (t : ℕ) → Contains (map loc.Lock cells) (loc.Regs t) → ⊥
no_register cells t h = go cells h.0 h.1 h.2
  where
    apart : {k t : ℕ} → loc.Lock k ≡ loc.Regs t → ⊥
    apart e = cc e

    go : (xs : List ℕ) (k : ℕ) → k < length (map loc.Lock xs) → get_or (map loc.Lock xs) k (loc.Regs t) ≡ loc.Regs t → ⊥
    go [] k less e = omega arith
    go (x ∷ xs) zero less e = apart e
    go (x ∷ xs) (suc k) less e = go xs k (omega arith) e

has-registers : (s : Subthread) → HasRegisters (foot_of s) (lock_foot_of s)
has-registers s =
    record {
      reads = λ t h. Contains-append_left (joined_registers s.begins.sync) (map loc.Rec (named_by s.actions).reads) (loc.Regs t) h;
      writes = λ t h. elim (split-append (loc.Regs s.thread ∷ child_registers s.child) (map loc.Lock s.held) (loc.Regs t) h) [
        | inl left ↦
            Contains-append_left (loc.Regs s.thread ∷ child_registers s.child) (map loc.Rec (named_by s.actions).writes) (loc.Regs t) left
        | inr right ↦ absurd (no_register s.held t right)
      ];
    }

run-registers : (run : List Subthread) (p : ℕ) → HasRegisters (foot_at (feet_of run) p) (foot_at (lock_feet_of run) p)
run-registers [] p = record { reads = λ t h. h; writes = λ t h. h }
run-registers (s ∷ rest) zero = has-registers s
run-registers (s ∷ rest) (suc p) = run-registers rest p

record OnlyRegisters (foot : Footprint) : Type 0 where
  reads : AreRegisters foot.reads
  writes : AreRegisters foot.writes

no-locks : (s : Subthread) → s.held ≡ [] → OnlyRegisters (lock_foot_of s)
no-locks s none =
    record {
      reads = joined_are s.begins.sync;
      writes = λ l h. elim (split-append (loc.Regs s.thread ∷ child_registers s.child) (map loc.Lock s.held) l h) [
        | inl left ↦ one_register s.thread (child_registers s.child) (child_are s.child) l left
        | inr right ↦ no_registers l (subst (λ held. Contains (map loc.Lock held) l) none right)
      ];
    }

run-no-locks : (run : List Subthread) (p : ℕ) (s : Subthread) → slice_get run p ≡ Some s → s.held ≡ []
    → OnlyRegisters (foot_at (lock_feet_of run) p)
run-no-locks [] p s is none = absurd (let e : None ≡ Some s = is in cc e)
run-no-locks (r ∷ rest) zero s is none =
    no-locks r (let e : ◌≡◌ {A = Option Subthread} (Some r) (Some s) = is in let same : r ≡ s = cc e in ap (λ s. s.held) same ∙ none)
run-no-locks (r ∷ rest) (suc p) s is none = run-no-locks rest p s is none

-- a location of both is a register, and stands in both footprints
shared-register : (first second firsts seconds : List Loc) → AreRegisters second
    → ((t : ℕ) → Contains first (loc.Regs t) → Contains firsts (loc.Regs t))
    → ((t : ℕ) → Contains second (loc.Regs t) → Contains seconds (loc.Regs t)) → Shared first second → Shared firsts seconds
shared-register first second firsts seconds are left right c =
    let is = are c.0 c.2 in
    (loc.Regs is.0, left is.0 (subst (Contains first) is.1 c.1), right is.0 (subst (Contains second) is.1 c.2))

conflict-without-locks : (foot other locks others : Footprint) → HasRegisters foot locks → HasRegisters other others → OnlyRegisters others
    → Conflict locks others → Conflict foot other
conflict-without-locks foot other locks others a b only (inl c) =
    inl (shared-register locks.writes others.writes foot.writes other.writes only.writes a.writes b.writes c)
conflict-without-locks foot other locks others a b only (inr (inl c)) =
    inr (inl (shared-register locks.writes others.reads foot.writes other.reads only.reads a.writes b.reads c))
conflict-without-locks foot other locks others a b only (inr (inr c)) =
    inr (inr (shared-register locks.reads others.writes foot.reads other.writes only.writes a.reads b.writes c))

pub no-locks-clash : NoLocksLaw
no-locks-clash run p q s is none clash =
    (conflicting-is (foot_at (feet_of run) q) (foot_at (feet_of run) p)).1
    (conflict-without-locks (foot_at (feet_of run) q) (foot_at (feet_of run) p) (foot_at (lock_feet_of run) q)
    (foot_at (lock_feet_of run) p)
    (run-registers run q) (run-registers run p) (run-no-locks run p s is none)
    ((conflicting-is (foot_at (lock_feet_of run) q) (foot_at (lock_feet_of run) p)).0 clash))
