-- What copies undo stands after each event of a run that rolls back, but rollbacks. The store holds the fold of what is applied by the
-- laws of rollbacks, whatever histories entries would keep. A checkpoint stays a copy, and a block of which a position was posted has its
-- checkpoint, since it was opened before. The number of positions that are applied before the first that is not is counted on where a
-- result is applied, over the entries that are. A retirement gives up only checkpoints of blocks of which some has retired.
use Rattle.std.proofs.Common.{◌≡◌, inl, inr, ℕ, ◌+◌, ◌-◌, ◌<◌, ◌≤◌, Bool, true, false, nat_eq, ◌&&◌, List, [], ◌∷◌, ◌++◌, length, All, Contains, Some, None, IfSome, refl, sym, ap, subst, ◌∙◌, arith}
use Rattle.std.specs.Prelude.{option_map}
use Rattle.std.specs.List.Sorted.{IsStrictlyIncreasing}
use Rattle.std.proofs.lemmas.Bool.{cases_lt, both_ways, false_from_ne_true, or_right, eq-eqb}
use Rattle.std.proofs.lemmas.List.Elements.{All-weaker, All-contains, Contains-push_cases, Contains-append_right, Contains-append_cases}
use Rattle.gp_base.specs.declared.fault.Fault.{Fault}
use Rattle.gp_base.specs.declared.footprint.Footprint.{Footprint}
use Rattle.gp_base.specs.declared.journal.Event.{Event}
use Rattle.gp_base.specs.declared.journal.Event.TheVariants as event
use Rattle.task_ast.specs.declared.effect.Effect.{Effect}
use Rattle.task_ast.specs.meaning.State.{State}
use Rattle.task_ast.specs.meaning.Effect.{after}
use Rattle.task_ast.specs.meaning.Plain.{Subthread}
use Rattle.dependence.specs.meaning.Restarts.{Dependence}
use Rattle.dependence.specs.meaning.Journal.{Stage, MayTake, happens, Allowed}
use Rattle.dependence.specs.Standing.{present}
use Rattle.dependence.specs.Histories.{HasCells}
use Rattle.dependence.specs.Touching.{done_by}
use Rattle.dependence.specs.Buffer.{with_at}
use Rattle.dependence.specs.RunBuffer.{members_at}
use Rattle.rollback.specs.meaning.Cuts.{cut_at, cuts_of, rolling_of}
use Rattle.rollback.specs.States.{Held, HeldStands, StaysBehind}
use Rattle.rollback.proofs.States.{happens-held, copy-keeps}
use Rattle.record_store.specs.Stored.{Stored, state_of}
use Rattle.reorder_list.specs.declared.entry.Entry.{Entry}
use Rattle.reorder_list.specs.declared.entry.State.{State as EntryState}
use Rattle.reorder_list.specs.declared.entry.State.TheVariants as entry
use Rattle.reorder_list.specs.Entries.{IsFresh, entry_at, is_applied, with_change_at, out_entry, known_entry, applied_entry, lines_of}
use Rattle.reorder_list.specs.Stages.{EntriesStand}
use Rattle.reorder_list.proofs.Changes.{changed_where, changed, from-first, is-there}
use Rattle.reorder_list.proofs.Buffered.{pushed-holds, sent-holds, learnt-holds}
use Rattle.whole_run.specs.declared.recovery.Recovery.TheVariants.{Rollback}
use Rattle.whole_run.specs.declared.parts.backing.Backup.{Backup}
use Rattle.whole_run.specs.declared.parts.backing.Checkpoint.{Checkpoint}
use Rattle.whole_run.specs.inner.Backed.{held_of, HasCut, AreLive, IsOpened, IsWhole, HasShape, StandsBy, IsCheckpoint, HasCheckpoints, CopiesStand}
use Rattle.whole_run.specs.inner.Backing.{IsAdvanced, DropsBefore}
use Rattle.whole_run.proofs.OpenCuts.{open-cut-there}
use Rattle.whole_run.proofs.CutRows.{rising-rest, cuts_in, cuts-append, all-part}
use Rattle.whole_run.proofs.EntryLines.{lines-taken, lines-later}

-- a store may have more threads, and is shaped as before otherwise
pub record StaysShaped (before later : Stored) : Type 0 where
  pub threads : length before.threads ≤ length later.threads
  pub cells : length later.cells ≡ length before.cells
  pub under : later.under ≡ before.under
  pub away : length later.away ≡ length before.away

pub applied-is : (state : EntryState) → is_applied state ≡ true → state ≡ entry.Applied
applied-is entry.Waiting e = absurd (let both : false ≡ true = e in cc both)
applied-is entry.Out e = absurd (let both : false ≡ true = e in cc both)
applied-is entry.Applied e = refl

unapplied-is : (state : EntryState) → is_applied state ≡ false → state ≡ entry.Applied → ⊥
unapplied-is state none is = let both = sym none ∙ ap is_applied is in cc both

module _ (run : List Subthread) (faults : List Fault) (start : State) (cells : HasCells start) (every : ℕ) where
  abbrev cuts : ℕ → Bool
  cuts = cuts_of every run

  abbrev rolled : Dependence
  rolled = rolling_of cuts run

  abbrev Copies : Stage → List Entry → Stored → Backup → Type 0
  Copies at entries store backup = CopiesStand run faults start every at entries store backup

  -- data and lines stand that are the same where anything is applied
  pub held-as : (at : Stage) (held other : Held) → other.state ≡ held.state
      → ((p : ℕ) → at.retired ≤ p → at.applied p ≡ true → other.lines p ≡ held.lines p)
      → HeldStands run faults start at held → HeldStands run faults start at other
  held-as at held other state lines stands =
      record {
        state_is = state ∙ stands.state_is;
        lines_are = λ p low is. lines p low is ∙ stands.lines_are p low is;
        closed = stands.closed;
        below = stands.below;
      }

  -- so does a checkpoint of a store that is shaped so
  shape-kept : (before later copy : Stored) → StaysShaped before later → HasShape before copy → HasShape later copy
  shape-kept before later copy stays shape =
      record {
        cells = shape.cells ∙ sym stays.cells;
        under = shape.under ∙ sym stays.under;
        away = shape.away ∙ sym stays.away;
        home = shape.home;
      }

  module _ (at : Stage) (stands : StandsBy run faults (Rollback every) at) where
    -- the number of positions that are applied before the first that is not
    whole-unretired : (whole : ℕ) → IsWhole at whole → at.retired ≤ whole
    whole-unretired whole is =
        elim (cases_lt whole at.retired) [
          | inl retired ↦ absurd (both_ways (at.applied whole) is.next (stands.0.stands.retired_applied whole retired))
          | inr unretired ↦ unretired
        ]

    module _ (entries : List Entry) (store : Stored) (backup : Backup) (copies : Copies at entries store backup) where
      -- ---- events but rollbacks and retirements

      -- after an event that is no rollback to before a checkpoint
      module _ (e : Event) (allowed : Allowed rolled faults at e) where
        abbrev after_event : Stage
        after_event = happens rolled faults at e

        pub checkpoint-kept : (later : Stored) → StaysShaped store later → (checkpoint : Checkpoint)
            → StaysBehind cuts run faults checkpoint.cut at e → IsCheckpoint run faults start every at store checkpoint
            → IsCheckpoint run faults start every after_event later checkpoint
        checkpoint-kept later stays checkpoint behind is =
            record {
              is_cut = is.is_cut;
              copy = copy-keeps run faults start cuts at e checkpoint.cut (state_of checkpoint.store) stands.0 allowed behind is.copy;
              shape = shape-kept store later checkpoint.store stays is.shape;
            }

        copies-then : ((cut : ℕ) → StaysBehind cuts run faults cut at e) → (others : List Entry) (later : Stored) (backup' : Backup)
            → StaysShaped store later → HeldStands run faults start after_event (held_of later others) → IsWhole after_event backup'.whole
            → backup'.checkpoints ≡ backup.checkpoints → HasCheckpoints run faults start every after_event backup.checkpoints.items
            → AreLive after_event.retired backup.checkpoints.items
            → Copies after_event others later backup'
        copies-then behind others later backup' stays held whole same has live =
            record {
              held = held;
              whole = whole;
              are = subst (λ c. All (IsCheckpoint run faults start every after_event later) c.items) (sym same)
                  (All-weaker (IsCheckpoint run faults start every at store) (IsCheckpoint run faults start every after_event later)
                  (λ checkpoint. checkpoint-kept later stays checkpoint (behind checkpoint.cut)) backup.checkpoints.items copies.are);
              rising = subst (λ c. IsStrictlyIncreasing (cuts_in c.items)) (sym same) copies.rising;
              has = subst (λ c. HasCheckpoints run faults start every after_event c.items) (sym same) has;
              live = subst (λ c. AreLive after_event.retired c.items) (sym same) live;
            }

      pub copies-issue : (p : ℕ) (e : Entry) (later : Stored) → Allowed rolled faults at (event.Issue p)
          → IsFresh e
          → state_of later ≡ state_of store → StaysShaped store later
          → Copies (happens rolled faults at (event.Issue p)) (entries ++ e ∷ []) later backup
      copies-issue p e later allowed fresh state stays =
          copies-then (event.Issue p) allowed (λ cut. tt) (entries ++ e ∷ []) later backup stays
          (held-as (happens rolled faults at (event.Issue p)) (held_of store entries) (held_of later (entries ++ e ∷ [])) state
          (λ q low is. ap (λ b. b.lines q) (pushed-holds store entries e fresh))
          (happens-held run faults start cuts cells at (event.Issue p) (held_of store entries) stands.0 copies.held allowed))
          (record { below = copies.whole.below; issued = let most = copies.whole.issued in omega arith; next = copies.whole.next })
          refl copies.has copies.live

      pub copies-post : (p attempt : ℕ) (later : Stored) → Allowed rolled faults at (event.Post p attempt)
          → EntriesStand run at entries → IsOpened (Rollback every) entries p backup → state_of later ≡ state_of store
          → StaysShaped store later
          → Copies (happens rolled faults at (event.Post p attempt)) (with_change_at p out_entry entries) later backup
      copies-post p attempt later allowed entries_are opened state stays =
          copies-then (event.Post p attempt) allowed (λ cut. tt) (with_change_at p out_entry entries) later backup stays
          (held-as (happens rolled faults at (event.Post p attempt)) (held_of store entries)
          (held_of later (with_change_at p out_entry entries)) state
          (λ q low is. ap (λ b. b.lines q) (sent-holds store entries p))
          (happens-held run faults start cuts cells at (event.Post p attempt) (held_of store entries) stands.0 copies.held allowed))
          (record { below = copies.whole.below; issued = copies.whole.issued; next = copies.whole.next })
          refl has copies.live
        where
          has : HasCheckpoints run faults start every (happens rolled faults at (event.Post p attempt)) backup.checkpoints.items
          has q low posted =
              elim (Contains-push_cases at.posted (p, attempt) (q, present at q) posted) [
                | inl old ↦ copies.has q low old
                | inr new ↦ this q (ap (λ pair. pair.0) new) low
              ]
            where
              this : (q : ℕ) → p ≡ q → at.retired ≤ cut_at cuts q → HasCut backup.checkpoints.items (cut_at cuts q)
              this q same low =
                  subst (λ r. HasCut backup.checkpoints.items (cut_at cuts r)) same
                  (opened (cut_at cuts p)
                  (open-cut-there run at entries entries_are stands.1 every stands.2 p allowed.unretired allowed.issued
                  (subst (λ r. at.retired ≤ cut_at cuts r) (sym same) low)))

      pub copies-stale : (p attempt : ℕ) (foot : Footprint)
          → Allowed rolled faults at (event.Take p attempt false)
          → Copies (happens rolled faults at (event.Take p attempt false)) (with_change_at p (known_entry foot) entries) store backup
      copies-stale p attempt foot allowed =
          copies-then (event.Take p attempt false) allowed (λ cut. tt) (with_change_at p (known_entry foot) entries) store backup
          (record { threads = omega arith; cells = refl; under = refl; away = refl })
          (held-as (happens rolled faults at (event.Take p attempt false)) (held_of store entries)
          (held_of store (with_change_at p (known_entry foot) entries)) refl
          (λ q low is. ap (λ b. b.lines q) (learnt-holds store entries p foot))
          (happens-held run faults start cuts cells at (event.Take p attempt false) (held_of store entries) stands.0 copies.held allowed))
          (record { below = copies.whole.below; issued = copies.whole.issued; next = copies.whole.next })
          refl copies.has copies.live

      -- after a result that was applied, where all that has one is passed
      module _ (p attempt : ℕ) (e : Entry) (foot : Footprint) (done : Effect) (later : Stored) (backup' : Backup)
          (allowed : MayTake at p attempt true) (there : entry_at entries p ≡ Some e)
          (fresh : done ≡ done_by (members_at run faults at p) (state_of store))
          (state : state_of later ≡ after done (state_of store)) (stays : StaysShaped store later) where
        abbrev taken : Stage
        taken = happens rolled faults at (event.Take p attempt true)

        abbrev known : List Entry
        known = with_change_at p (known_entry foot) entries

        abbrev others : List Entry
        others = with_change_at p (applied_entry None done.prints) known

        held-taken : HeldStands run faults start taken (held_of later others)
        held-taken =
            held-as taken (record { state = after done (state_of store); lines = with_at (lines_of entries) p done.prints })
            (held_of later others) state
            (λ q low is.
            lines-taken known p (known_entry foot e) None done.prints known-there q
            ∙ ap (λ lines. with_at lines p done.prints q) (ap (λ b. b.lines) (learnt-holds store entries p foot)))
            (subst (λ (d : Effect). HeldStands run faults start taken
            (record { state = after d (state_of store); lines = with_at (lines_of entries) p d.prints }))
            (sym fresh)
            (happens-held run faults start cuts cells at (event.Take p attempt true) (held_of store entries) stands.0 copies.held allowed))
          where
            known-there : entry_at known p ≡ Some (known_entry foot e)
            known-there =
                changed (λ q. nat_eq q p) (known_entry foot) entries p (λ x. refl)
                ∙ (ap (option_map (changed_where (nat_eq p p) (known_entry foot))) there
                ∙ ap (λ b. Some (changed_where b (known_entry foot) e)) (eq-eqb p p refl))

        pub copies-take : EntriesStand run taken others → IsAdvanced others backup backup' → Copies taken others later backup'
        copies-take entries_are advanced =
            copies-then (event.Take p attempt true) allowed (λ cut. tt) others later backup' stays held-taken
            (record { below = below; issued = issued; next = next }) advanced.checkpoints copies.has copies.live
          where
            below : (q : ℕ) → q < backup'.whole → taken.applied q ≡ true
            below q less =
                elim (cases_lt q backup.whole) [
                  | inl before ↦ or_right (true && nat_eq q p) (at.applied q) (copies.whole.below q before)
                  | inr from ↦
                      (let passed = advanced.passed q from less in
                      (entries_are.each q passed.0 passed.1).applied.0 (applied-is passed.0.state passed.2))
                ]

            issued : backup'.whole ≤ at.progress.front
            issued =
                elim (cases_lt backup.whole backup'.whole) [
                  | inl more ↦
                      (let last = advanced.passed (backup'.whole - 1) (omega arith) (omega arith) in
                      let within = (from-first at.retired others (backup'.whole - 1) last.0 entries_are.row last.1).1 in
                      let whole = entries_are.front in
                      omega arith)
                  | inr same ↦ (let most = copies.whole.issued in omega arith)
                ]

            next : taken.applied backup'.whole ≡ false
            next =
                elim (cases_lt backup'.whole at.progress.front) [
                  | inl inside ↦
                      (let low = whole-unretired backup.whole copies.whole in
                      let more = advanced.low in
                      let whole = entries_are.front in
                      let stop = is-there at.retired others backup'.whole entries_are.row (omega arith) (omega arith) in
                      let none : is_applied stop.0.state ≡ false =
                      subst (λ o. IfSome o (λ (x : Entry). is_applied x.state ≡ false)) stop.1 advanced.stops in
                      false_from_ne_true (taken.applied backup'.whole)
                      (λ is. unapplied-is stop.0.state none ((entries_are.each backup'.whole stop.0 stop.1).applied.1 is)))
                  | inr end ↦
                      false_from_ne_true (taken.applied backup'.whole)
                      (λ is. absurd (let inside = held-taken.below backup'.whole is in omega arith))
                ]

    -- ---- a retirement

    module _ (e : Entry) (entries : List Entry) (store : Stored) (backup backup' : Backup) (entries_are : EntriesStand run at (e ∷ entries))
        (copies : Copies at (e ∷ entries) store backup) where
      pub copies-retire : DropsBefore (at.retired + 1) backup backup'
          → Copies (happens rolled faults at (event.Retire at.retired)) entries store backup'
      copies-retire dropped =
          record {
            held = record {
              state_is = copies.held.state_is;
              lines_are = λ q low is. lines-later e entries at.retired entries_are.row q (omega arith)
                  ∙ copies.held.lines_are q (omega arith) is;
              closed = copies.held.closed;
              below = copies.held.below;
            };
            whole = subst (IsWhole (happens rolled faults at (event.Retire at.retired))) (sym dropped.whole)
                (record { below = copies.whole.below; issued = copies.whole.issued; next = copies.whole.next });
            are = all-part (IsCheckpoint run faults start every (happens rolled faults at (event.Retire at.retired)) store)
                backup'.checkpoints.items backup.checkpoints.items
                (λ checkpoint there.
                subst (λ items. Contains items checkpoint) (sym dropped.split)
                (Contains-append_right dropped.front backup'.checkpoints.items checkpoint there))
                (All-weaker (IsCheckpoint run faults start every at store)
                (IsCheckpoint run faults start every (happens rolled faults at (event.Retire at.retired)) store)
                (λ checkpoint is.
                record {
                  is_cut = is.is_cut;
                  copy = record { state_is = is.copy.state_is; whole = is.copy.whole };
                  shape = is.shape;
                })
                backup.checkpoints.items copies.are);
            rising = rising-rest (cuts_in dropped.front) (cuts_in backup'.checkpoints.items)
                (subst IsStrictlyIncreasing (ap cuts_in dropped.split ∙ cuts-append dropped.front backup'.checkpoints.items) copies.rising);
            has = λ q low posted.
                (let old = copies.has q (omega arith) posted in
                elim (Contains-append_cases dropped.front backup'.checkpoints.items old.0
                (subst (λ items. Contains items old.0) dropped.split old.1)) [
                  | inl gone ↦
                      absurd
                      (let before = All-contains (λ (checkpoint : Checkpoint). checkpoint.cut < at.retired + 1) dropped.front old.0
                      dropped.dropped gone in
                      let same = old.2 in
                      omega arith)
                  | inr kept ↦ (old.0, kept, old.2)
                ]);
            live = dropped.stops;
          }
