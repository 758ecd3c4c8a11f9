-- A journal by blocks is narrower, and nothing of a block that has begun to retire is rolled back. A position of a
-- block of which some has retired was issued, and no fault names its attempt; so it is not struck, and no rollback goes
-- back before what has retired. Where the present attempt is posted all before its block is applied, so that what is
-- out is of one block. Each event that is allowed by blocks keeps both.
use Rattle.std.proofs.Common.{◌≡◌, inl, inr, ℕ, ◌+◌, ◌<◌, ◌≤◌, Bool, true, false, nat_eq, nat_lt, List, [], ◌∷◌, Contains, Option, Some, None, refl, sym, ap, subst, arith, nat_le}
use Rattle.std.proofs.lemmas.Bool.{both_ways, false_from_ne_true, le-leb, and_from, or_cases, or_right, lt-ltb, eqb-true, cases_lt}
use Rattle.std.proofs.lemmas.List.Elements.{All-contains}
use Rattle.gp_base.specs.declared.limits.TheConstants.{LONGEST_DELAY}
use Rattle.gp_base.specs.declared.fault.Fault.{Fault}
use Rattle.gp_base.specs.declared.journal.Event.{Event}
use Rattle.gp_base.specs.declared.journal.Event.TheVariants as event
use Rattle.dependence.specs.meaning.Restarts.{Dependence, drains, begun_of, is_live, is_due, struck_next, NoneDue, NoneLive}
use Rattle.dependence.specs.meaning.Journal.{Stage, initial_stage, Drained, IsSafe, Allowed, LawfulFrom, happens, restarted, stage_from}
use Rattle.dependence.specs.Standing.{present, NamesAttempt, AreShort, KeepsRetired}
use Rattle.dependence.specs.RunBuffer.{IsOut}
use Rattle.dependence.proofs.Standing.{happens-stands, initial-stands}
use Rattle.dependence.proofs.Struck.{none-among, struck-live, names-live}
use Rattle.rollback.specs.meaning.Cuts.{cut_at, rolling}
use Rattle.rollback.specs.Cuts.{SettlesCut}
use Rattle.rollback.specs.Standing.{BlocksStand}
use Rattle.rollback.proofs.Backs.{cut-low, cut-kept, cut-rises, cut-above, back-within, redone, attempt-kept, rolls-conflicts}

module _ (cuts : ℕ → Bool) (dependence : Dependence) (faults : List Fault) where
  abbrev rolled : Dependence
  rolled = rolling cuts dependence

  -- ---- what stands

  pub initial-blocks : BlocksStand cuts dependence faults initial_stage
  initial-blocks =
      record {
        stands = initial-stands rolled faults;
        issued = λ p counted begun. absurd (omega arith);
        clean = λ p counted begun. absurd (omega arith);
      }

  -- before the block of a present attempt that is posted all is applied
  block-ready : (at : Stage) → BlocksStand cuts dependence faults at → (p q : ℕ) → Contains at.posted (p, present at p)
      → q < cut_at cuts p → at.applied q ≡ true
  block-ready at blocks p q posted before =
      blocks.stands.ready p q posted (let low = cut-low cuts p in omega arith)
      (or_right (dependence.clash q p) (nat_lt q (cut_at cuts p)) (lt-ltb q (cut_at cuts p) before))

  -- a block of which some has retired is not struck
  unstruck : (at : Stage) → BlocksStand cuts dependence faults at → (struck : ℕ) → struck_next rolled faults at.progress ≡ Some struck
      → cut_at cuts struck < at.retired → ⊥
  unstruck at blocks struck e begun =
      let live = struck-live rolled faults at.progress struck e in
      let issued = live.0 in
      let front = blocks.stands.front_low in
      blocks.clean struck (omega arith) begun live.1

  -- so no rollback goes back to before what has retired, and none redoes it
  pub struck-cut : (at : Stage) (struck : ℕ) → BlocksStand cuts dependence faults at → struck_next rolled faults at.progress ≡ Some struck
      → at.retired ≤ cut_at cuts struck
  struck-cut at struck blocks e =
      elim (cases_lt (cut_at cuts struck) at.retired) [
        | inl begun ↦ absurd (unstruck at blocks struck e begun)
        | inr unretired ↦ unretired
      ]

  pub keeps-retired : (at : Stage) → BlocksStand cuts dependence faults at → KeepsRetired rolled faults at
  keeps-retired at blocks struck p e l redone =
      let low = (back-within cuts struck at.progress.front p redone).0 in
      unstruck at blocks struck e (omega arith)

  -- ---- what is out is of one block

  out-apart : (at : Stage) (p attempt q other : ℕ) → BlocksStand cuts dependence faults at → IsOut at p attempt → IsOut at q other
      → cut_at cuts p < cut_at cuts q → ⊥
  out-apart at p attempt q other blocks out_p out_q l =
      out_p.untaken (subst (λ a. Contains at.taken (p, a)) (sym out_p.present) (blocks.stands.applied_taken p applied posted))
    where
      before : p < cut_at cuts q
      before =
          elim (cases_lt p (cut_at cuts q)) [
            | inl less ↦ less
            | inr late ↦ absurd (let same = cut-kept cuts q p late in omega arith)
          ]

      posted : Contains at.posted (p, present at p)
      posted = subst (λ a. Contains at.posted (p, a)) out_p.present out_p.posted

      applied : at.applied p ≡ true
      applied = block-ready at blocks q p (subst (λ a. Contains at.posted (q, a)) out_q.present out_q.posted) before

  pub one-block : (at : Stage) (p attempt q other : ℕ) → BlocksStand cuts dependence faults at → IsOut at p attempt → IsOut at q other
      → cut_at cuts p ≡ cut_at cuts q
  one-block at p attempt q other blocks out_p out_q =
      elim (cases_lt (cut_at cuts p) (cut_at cuts q)) [
        | inl less ↦ absurd (out-apart at p attempt q other blocks out_p out_q less)
        | inr least ↦
            elim (cases_lt (cut_at cuts q) (cut_at cuts p)) [
              | inl less ↦ absurd (out-apart at q other p attempt blocks out_q out_p less)
              | inr most ↦ omega arith
            ]
      ]

  -- ---- a later block waits

  pub later-waits : (at : Stage) (p q : ℕ) → BlocksStand cuts dependence faults at → at.applied p ≡ false → p < cut_at cuts q
      → at.applied q ≡ false
  later-waits at p q blocks absent before =
      false_from_ne_true (at.applied q)
      (λ e. both_ways (at.applied p) absent (block-ready at blocks q p (blocks.stands.applied_posted q unretired e) before))
    where
      unretired : at.retired ≤ q
      unretired =
          elim (cases_lt p at.retired) [
            | inl l ↦ absurd (both_ways (at.applied p) absent (blocks.stands.retired_applied p l))
            | inr l ↦ (let cut = cut-low cuts q in omega arith)
          ]

  -- ---- a block of which nothing is posted

  module _ (at : Stage) (p : ℕ) (blocks : BlocksStand cuts dependence faults at) (unretired : at.retired ≤ cut_at cuts p)
      (unposted : (q : ℕ) → cut_at cuts q ≡ cut_at cuts p → ¬ Contains at.posted (q, present at q)) where
    -- what is posted from its cut on is of a later block, which waits for the position
    none-posted : (q : ℕ) → cut_at cuts p ≤ q → Contains at.posted (q, present at q) → ⊥
    none-posted q from posted =
        elim (cases_lt p (cut_at cuts q)) [
          | inl later ↦
              unposted p refl (blocks.stands.applied_posted p (let low = cut-low cuts p in omega arith) (block-ready at blocks q p posted later))
          | inr within ↦
              unposted q
              (let least = cut-kept cuts p q from in
              let most = cut-kept cuts q p within in
              omega arith)
              posted
        ]

    pub unbegun-applied : (q : ℕ) → cut_at cuts p ≤ q → at.applied q ≡ false
    unbegun-applied q from =
        false_from_ne_true (at.applied q) (λ e. none-posted q from (blocks.stands.applied_posted q (omega arith) e))

    pub unbegun-out : ((q : ℕ) → q < cut_at cuts p → at.applied q ≡ true) → (q attempt : ℕ) → ¬ IsOut at q attempt
    unbegun-out whole q attempt out =
        elim (cases_lt q (cut_at cuts p)) [
          | inl before ↦
              out.untaken (subst (λ a. Contains at.taken (q, a)) (sym out.present) (blocks.stands.applied_taken q (whole q before) posted))
          | inr from ↦ none-posted q from posted
        ]
      where
        posted : Contains at.posted (q, present at q)
        posted = subst (λ a. Contains at.posted (q, a)) out.present out.posted

  pub first-posts : (at : Stage) (p : ℕ) → BlocksStand cuts dependence faults at → p < at.progress.front → at.applied p ≡ false
      → ((q : ℕ) → q < p → at.applied q ≡ true) → ¬ IsOut at p (present at p)
      → Allowed (rolling cuts dependence) faults at (event.Post p (present at p))
  first-posts at p blocks issued absent whole home =
      record {
        issued = issued;
        unretired = unretired;
        present = refl;
        unposted = λ posted. home (record { posted = posted; untaken = untaken; present = refl });
        ready = λ q l c. whole q l;
      }
    where
      unretired : at.retired ≤ p
      unretired =
          elim (cases_lt p at.retired) [
            | inl l ↦ absurd (both_ways (at.applied p) absent (blocks.stands.retired_applied p l))
            | inr l ↦ l
          ]

      untaken : ¬ Contains at.taken (p, present at p)
      untaken taken = both_ways (at.applied p) absent (blocks.stands.taken_applied p taken)

  module _ (settled : SettlesCut cuts dependence) (short : AreShort faults) where
    -- no fault names the attempt of a position that is safe where none is due
    safe-clean : (at : Stage) (p : ℕ) → NoneDue faults at.progress → p < at.progress.front
        → begun_of at.progress.made p + LONGEST_DELAY ≤ at.progress.front → ¬ NamesAttempt faults p (present at p)
    safe-clean at p none issued long n =
        both_ways (is_due at.progress n.0) (none-among (is_due at.progress) faults n.0 none n.1)
        (and_from (is_live at.progress n.0) (nat_le (begun_of at.progress.made (n.0).pos + (n.0).delay) at.progress.front)
        (names-live faults at.progress p issued n)
        (let s = All-contains (λ (fault : Fault). fault.delay ≤ LONGEST_DELAY) faults n.0 short n.1 in
        let g = ap (begun_of at.progress.made) n.2 in
        le-leb _ _ (omega arith)))

    live-clean : (at : Stage) (p : ℕ) → NoneLive faults at.progress → p < at.progress.front → ¬ NamesAttempt faults p (present at p)
    live-clean at p none issued n =
        both_ways (is_live at.progress n.0) (none-among (is_live at.progress) faults n.0 none n.1)
        (names-live faults at.progress p issued n)

    -- a position of a block of which some has retired was issued, and no fault names its attempt
    abbrev AreClear : Stage → Type 0
    AreClear at =
        (q : ℕ) → q < dependence.count → cut_at cuts q < at.retired → (q < at.progress.front) × ¬ NamesAttempt faults q (present at q)

    clear : (at : Stage) → BlocksStand cuts dependence faults at → AreClear at
    clear at blocks q counted begun = (blocks.issued q counted begun, blocks.clean q counted begun)

    -- where the front drains, it is the end of the run, or a settle, which is a cut
    drained-below : (at : Stage) (p q : ℕ) → q < dependence.count → cut_at cuts q < p + 1 → p < at.progress.front
        → drains rolled at.progress.front ≡ true → q < at.progress.front
    drained-below at p q counted begun issued drained =
        elim (or_cases (nat_eq at.progress.front dependence.count) (dependence.settles at.progress.front) drained) [
          | inl last ↦ (let e = eqb-true at.progress.front dependence.count last in omega arith)
          | inr settles ↦
              elim (cases_lt q at.progress.front) [
                | inl below ↦ below
                | inr past ↦ absurd (let c = cut-above cuts at.progress.front q (settled at.progress.front settles) past in omega arith)
              ]
        ]

    retire-clear : (at : Stage) (p : ℕ) → BlocksStand cuts dependence faults at → Allowed (rolling cuts dependence) faults at (event.Retire p)
        → AreClear (happens rolled faults at (event.Retire p))
    retire-clear at p blocks may q counted begun =
        elim (cases_lt q p) [
          | inl before ↦
              (let a = may.oldest in
              let b = blocks.stands.retired_low in
              (omega arith, blocks.stands.retired_clean q (omega arith)))
          | inr later ↦ elim may.safe [ inl rest ↦ long later (rest q later counted (same later)) | inr drained ↦ left drained ]
        ]
      where
        same : p ≤ q → cut_at cuts q ≡ cut_at cuts p
        same later =
            let kept = cut-kept cuts q p (omega arith) in
            let low = cut-rises cuts p q later in
            omega arith

        long : p ≤ q → IsSafe at q → (q < at.progress.front) × ¬ NamesAttempt faults q (present at q)
        long later safe =
            let oldest = may.oldest in
            let issued = (blocks.stands.posted_low q (present at q) (blocks.stands.applied_posted q (omega arith) safe.applied)).0 in
            (issued, safe-clean at q may.none_due issued safe.long)

        left : Drained rolled faults at.progress → (q < at.progress.front) × ¬ NamesAttempt faults q (present at q)
        left drained =
            let below : q < at.progress.front = drained-below at p q counted begun may.issued drained.0 in
            (below, live-clean at q drained.1 below)

    restart-clear : (at : Stage) (o : Option ℕ) → struck_next rolled faults at.progress ≡ o → BlocksStand cuts dependence faults at
        → AreClear (restarted rolled at o)
    restart-clear at None e blocks q counted begun = clear at blocks q counted begun
    restart-clear at (Some struck) e blocks q counted begun =
        (blocks.issued q counted begun, λ n. blocks.clean q counted begun (subst (NamesAttempt faults q) kept n))
      where
        before : q < cut_at cuts struck
        before =
            elim (cases_lt q (cut_at cuts struck)) [
              | inl less ↦ less
              | inr from ↦ absurd (let same = cut-kept cuts struck q from in unstruck at blocks struck e (omega arith))
            ]

        kept : present (restarted rolled at (Some struck)) q ≡ present at q
        kept = attempt-kept cuts dependence at struck q before

    happens-clear : (at : Stage) (e : Event) → BlocksStand cuts dependence faults at → Allowed (rolling cuts dependence) faults at e
        → AreClear (happens rolled faults at e)
    happens-clear at (event.Issue p) blocks may q counted begun =
        let l = blocks.issued q counted begun in (omega arith, blocks.clean q counted begun)
    happens-clear at (event.Post p attempt) blocks may q counted begun = clear at blocks q counted begun
    happens-clear at (event.Take p attempt applies) blocks may q counted begun = clear at blocks q counted begun
    happens-clear at (event.Restart number) blocks may q counted begun =
        restart-clear at (struck_next rolled faults at.progress) refl blocks q counted begun
    happens-clear at (event.Retire p) blocks may q counted begun = retire-clear at p blocks may q counted begun

    pub happens-blocks : (at : Stage) (e : Event) → BlocksStand cuts dependence faults at → Allowed (rolling cuts dependence) faults at e
        → BlocksStand cuts dependence faults (happens rolled faults at e)
    happens-blocks at e blocks may =
        let after = happens-clear at e blocks may in
        record {
          stands =
              happens-stands rolled (rolls-conflicts cuts dependence) faults short at e (keeps-retired at blocks) blocks.stands
              may;
          issued = λ q counted begun. (after q counted begun).0;
          clean = λ q counted begun. (after q counted begun).1;
        }

    pub blocks-from : (at : Stage) (events : List Event) → BlocksStand cuts dependence faults at
        → LawfulFrom (rolling cuts dependence) faults at events → BlocksStand cuts dependence faults (stage_from rolled faults at events)
    blocks-from at [] blocks lawful = blocks
    blocks-from at (e ∷ rest) blocks lawful = blocks-from (happens rolled faults at e) rest (happens-blocks at e blocks lawful.0) lawful.1
