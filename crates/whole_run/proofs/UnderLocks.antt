-- What stands under a lock stays as it is while an attempt is out that holds the lock. Two positions that hold one lock
-- are in conflict by locks, and of two that are in conflict only one is out. So a result that is taken meanwhile names
-- no cell under the lock; and no restart comes, since an attempt that is out holds a lock, and a restart waits until
-- all are at home.
use Rattle.std.proofs.Common.{◌≡◌, inl, inr, ℕ, zero, suc, ◌≤◌, ◌<◌, true, false, List, [], ◌∷◌, ◌++◌, length, map, Contains, Some, refl, sym, ap, ◌∙◌, subst, arith, slice_get}
use Rattle.std.proofs.lemmas.Bool.{eqb-true}
use Rattle.std.proofs.lemmas.List.Elements.{Contains-append_right, Contains-push}
use Rattle.gp_base.specs.declared.fault.Fault.{Fault}
use Rattle.gp_base.specs.declared.footprint.Loc.TheVariants as loc
use Rattle.gp_base.specs.declared.journal.Event.{Event}
use Rattle.gp_base.specs.declared.journal.Event.TheVariants as event
use Rattle.task_ast.specs.meaning.Footprint.{named_by, child_registers}
use Rattle.task_ast.specs.History.{IsNamed}
use Rattle.task_ast.specs.meaning.Plain.{Subthread, foot_of}
use Rattle.task_ast.specs.Plain.{lock_foot_of}
use Rattle.task_ast.specs.meaning.State.{State, CellOf}
use Rattle.task_ast.specs.meaning.Effect.{after}
use Rattle.task_ast.specs.meaning.Under.{under_lock, is_under}
use Rattle.task_ast.specs.Under.{KeepsToLocks, NamesHeld}
use Rattle.dependence.specs.meaning.Conflict.{clash_in, foot_at}
use Rattle.dependence.specs.meaning.Dependents.{is_member}
use Rattle.dependence.specs.meaning.Restarts.{Dependence}
use Rattle.dependence.specs.Restarts.{mask_now}
use Rattle.dependence.specs.meaning.Journal.{Stage, Allowed, MayTake, happens}
use Rattle.dependence.specs.Posting.{OutReady}
use Rattle.dependence.specs.meaning.Runs.{feet_of, dependence_of}
use Rattle.dependence.specs.Runs.{lock_feet_of}
use Rattle.dependence.specs.Standing.{present, StageStands}
use Rattle.dependence.specs.Touching.{IsApart, done_by}
use Rattle.dependence.specs.Buffer.{Buffer}
use Rattle.dependence.specs.RunBuffer.{IsOut, members_at, buffer_happens}
use Rattle.dependence.proofs.Conflicting.{conflicting-is}
use Rattle.dependence.proofs.Effects.{after_outside}
use Rattle.dependence.proofs.Keeping.{Contains-map, run-keeps, under-held}
use Rattle.dependence.proofs.LockClashes.{split-append, one_register, child_are}
use Rattle.dependence.proofs.Naming.{from-map, named-passes}
use Rattle.rollback.specs.meaning.Cuts.{cuts_of, rolling_of}
use Rattle.rollback.specs.Standing.{BlocksStand}
use Rattle.rollback.specs.States.{Held, held_happens}
use Rattle.whole_run.specs.declared.recovery.Recovery.TheVariants.{Selective, Rollback}
use Rattle.whole_run.specs.Gives.{NoneHolds, HasWaited}
use Rattle.whole_run.proofs.Ready.{slice_get_inside, present-posted, present-untaken}

-- ---- footprints by locks

-- the footprints at a position are those of its subthread
pub foot-there : (run : List Subthread) (p : ℕ) (s : Subthread) → slice_get run p ≡ Some s → foot_at (feet_of run) p ≡ foot_of s
foot-there [] p s e = absurd (cc e)
foot-there (x ∷ run) zero s e = let same : x ≡ s = cc e in ap foot_of same
foot-there (x ∷ run) (suc p) s e = foot-there run p s e

locks-there : (run : List Subthread) (p : ℕ) (s : Subthread) → slice_get run p ≡ Some s → foot_at (lock_feet_of run) p ≡ lock_foot_of s
locks-there [] p s e = absurd (cc e)
locks-there (x ∷ run) zero s e = let same : x ≡ s = cc e in ap lock_foot_of same
locks-there (x ∷ run) (suc p) s e = locks-there run p s e

-- each lock that is held is written by locks
pub writes-lock : (s : Subthread) (l : ℕ) → Contains s.held l → Contains (lock_foot_of s).writes (loc.Lock l)
writes-lock s l there =
    Contains-append_right (loc.Regs s.thread ∷ child_registers s.child) (map loc.Lock s.held) (loc.Lock l)
    (Contains-map loc.Lock s.held l there)

-- so two positions that hold one lock are in conflict by locks
pub one-lock : (run : List Subthread) (p q l : ℕ) (x y : Subthread) → slice_get run p ≡ Some x → slice_get run q ≡ Some y
    → Contains x.held l → Contains y.held l → clash_in (lock_feet_of run) p q ≡ true
one-lock run p q l x y x_there y_there x_holds y_holds =
    (conflicting-is (foot_at (lock_feet_of run) p) (foot_at (lock_feet_of run) q)).1
    (inl (
      loc.Lock l,
      subst (λ f. Contains f.writes (loc.Lock l)) (sym (locks-there run p x x_there)) (writes-lock x l x_holds),
      subst (λ f. Contains f.writes (loc.Lock l)) (sym (locks-there run q y y_there)) (writes-lock y l y_holds),
    ))

-- a cell is no register
no_register : {t c : ℕ} → loc.Rec c ≡ loc.Regs t → ⊥
no_register e = cc e

same_cell : {c d : ℕ} → loc.Rec c ≡ loc.Rec d → c ≡ d
same_cell e = cc e

-- a cell that is written stands under a lock that is held
writes-under : (under : List (List ℕ)) (s : Subthread) → KeepsToLocks under s → (c : ℕ) → Contains (foot_of s).writes (loc.Rec c)
    → (l : ℕ) × Contains (under_lock under l) c × Contains s.held l
writes-under under s names c writes =
    elim (split-append (loc.Regs s.thread ∷ child_registers s.child) (map loc.Rec (named_by s.actions).writes) (loc.Rec c) writes) [
      | inl left ↦ absurd (no_register (one_register s.thread (child_registers s.child) (child_are s.child) (loc.Rec c) left).1)
      | inr right ↦
          (let cell = from-map (named_by s.actions).writes (loc.Rec c) right in
          let member = subst (λ d. is_member d (named_by s.actions).writes ≡ true) (sym (same_cell cell.1)) cell.2 in
          under-held under s.held c ((named-passes (is_under under s.held) s.actions names).written c member))
    ]

-- ---- attempts that are out

module _ {dependence : Dependence} (run : List Subthread) (faults : List Fault) (at : Stage) (stands : StageStands dependence faults at)
    (ready : OutReady (clash_in (lock_feet_of run)) at) where
  -- what is out is not applied
  not-applied : (p attempt : ℕ) → IsOut at p attempt → at.applied p ≡ true → ⊥
  not-applied p attempt out applied =
      present-untaken at p attempt out (stands.applied_taken p applied (present-posted at p attempt out))

  -- of two attempts that are out none holds a lock of the other
  pub out-apart : (p q a b l : ℕ) (x y : Subthread) → IsOut at p a → IsOut at q b → slice_get run p ≡ Some x → slice_get run q ≡ Some y
      → Contains x.held l → Contains y.held l → p ≡ q
  out-apart p q a b l x y out other x_there y_there x_holds y_holds =
      grind (
        arith,
        λ (less : p < q). not-applied p a out (ready q b p other less (one-lock run p q l x y x_there y_there x_holds y_holds)),
        λ (less : q < p). not-applied q b other (ready p a q out less (one-lock run q p l y x y_there x_there y_holds x_holds)),
      )

  module _ (within : at.progress.front ≤ length run) (under : List (List ℕ)) (once : IsApart under) (names : NamesHeld under run)
      (p attempt : ℕ) (s : Subthread) (there : slice_get run p ≡ Some s) (out : IsOut at p attempt)
      (l c : ℕ) (holds : Contains s.held l) (over : Contains (under_lock under l) c) where
    -- a result of another attempt names no such cell
    take-leaves : (state : State) (q other : ℕ) → MayTake at q other true → ¬ ((q ≡ p) × (other ≡ attempt))
        → after (done_by (members_at run faults at q) state) state (CellOf c) ≡ state (CellOf c)
    take-leaves state q other allowed apart = after_outside (done_by (members_at run faults at q) state) state (CellOf c) named
      where
        is_out : IsOut at q other
        is_out =
            record { posted = allowed.posted; untaken = allowed.untaken; present = eqb-true other (present at q) (sym allowed.decided) }

        named : IsNamed (done_by (members_at run faults at q) state) (CellOf c) → ⊥
        named is =
            let low = (stands.posted_low q other allowed.posted).0 in
            let y = slice_get_inside run q (omega arith) in
            let keeps = (run-keeps run (mask_now faults at.progress.made) q).within state (CellOf c) is in
            let writes = subst (λ f. Contains f.writes (loc.Rec c)) (foot-there run q y.0 y.1) keeps in
            let lock = writes-under under y.0 (names q y.0 y.1) c writes in
            let same : lock.0 ≡ l = once lock.0 l c lock.1 over in
            let one : q ≡ p = out-apart q p other attempt l y.0 s is_out out y.1 there (subst (Contains y.0.held) same lock.2) holds in
            apart (one, is_out.present ∙ (ap (present at) one ∙ sym out.present))

    -- so a result that is taken leaves the cell as it is, while the attempt is out
    pub taken-locked : (state : State) (q other : ℕ) → MayTake at q other true → ¬ Contains (at.taken ++ (q, other) ∷ []) (p, attempt)
        → after (done_by (members_at run faults at q) state) state (CellOf c) ≡ state (CellOf c)
    taken-locked state q other allowed untaken =
        take-leaves state q other allowed
        (λ same. untaken (subst (Contains (at.taken ++ (q, other) ∷ [])) (λ i. (same.0 i, same.1 i)) (Contains-push at.taken (q, other))))

    -- and no restart comes where each lock is at home
    pub none-locked : NoneHolds run at → ⊥
    none-locked none =
        let held = none p s there (present-posted at p attempt out) (present-untaken at p attempt out) in
        let less = (subst (λ locks. Contains locks l) held holds).1 in omega arith

-- ---- each event leaves such a cell as it is

module _ (run : List Subthread) (faults : List Fault) (at : Stage) (ready : OutReady (clash_in (lock_feet_of run)) at)
    (under : List (List ℕ)) (once : IsApart under) (names : NamesHeld under run)
    (p attempt : ℕ) (s : Subthread) (there : slice_get run p ≡ Some s) (out : IsOut at p attempt)
    (l c : ℕ) (holds : Contains s.held l) (over : Contains (under_lock under l) c) where
  -- where dependents are restarted
  pub buffer-locked : StageStands (dependence_of run) faults at → (buffer : Buffer) (e : Event) → Allowed (dependence_of run) faults at e
      → HasWaited Selective run at e → IsOut (happens (dependence_of run) faults at e) p attempt
      → (buffer_happens run faults at e buffer).state (CellOf c) ≡ buffer.state (CellOf c)
  buffer-locked stands buffer (event.Issue q) allowed waited still = refl
  buffer-locked stands buffer (event.Post q other) allowed waited still = refl
  buffer-locked stands buffer (event.Take q other true) allowed waited still =
      taken-locked run faults at stands ready stands.front_low under once names p attempt s there out l c holds over
      buffer.state q other allowed still.untaken
  buffer-locked stands buffer (event.Take q other false) allowed waited still = refl
  buffer-locked stands buffer (event.Restart number) allowed waited still =
      absurd (none-locked run faults at stands ready stands.front_low under once names p attempt s there out l c holds over waited)
  buffer-locked stands buffer (event.Retire q) allowed waited still = refl

  -- and where all is rolled back
  pub held-locked : (start : State) (every : ℕ) → BlocksStand (cuts_of every run) (dependence_of run) faults at → (held : Held) (e : Event)
      → Allowed (rolling_of (cuts_of every run) run) faults at e → HasWaited (Rollback every) run at e
      → IsOut (happens (rolling_of (cuts_of every run) run) faults at e) p attempt
      → (held_happens run faults start (cuts_of every run) at e held).state (CellOf c) ≡ held.state (CellOf c)
  held-locked start every blocks held (event.Issue q) allowed waited still = refl
  held-locked start every blocks held (event.Post q other) allowed waited still = refl
  held-locked start every blocks held (event.Take q other true) allowed waited still =
      taken-locked run faults at blocks.stands ready blocks.stands.front_low under once names p attempt s there out l c holds over
      held.state q other allowed still.untaken
  held-locked start every blocks held (event.Take q other false) allowed waited still = refl
  held-locked start every blocks held (event.Restart number) allowed waited still = absurd (waited p attempt out)
  held-locked start every blocks held (event.Retire q) allowed waited still = refl
