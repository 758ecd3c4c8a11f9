-- The ring and the places after a pass and after an issue. The ring's table is the plain run's, or knows less than that
-- (Standings), so that what it tells is the plain run's next step. A thread whose next synchronisation is needed is one
-- whose last position was never taken; one that is issued stands where its place says, and a child's place comes at the
-- end.
use Rattle.std.proofs.Common.{◌≡◌, inl, inr, ℕ, suc, ◌+◌, ◌<◌, ◌≤◌, List, [], ◌∷◌, ◌++◌, length, Option, Some, None, refl, sym, ap, ◌∙◌, subst, arith, true}
use Rattle.std.specs.Prelude.{◌≢◌, ℤ, slice_get, option_and_then, false}
use Rattle.std.specs.Option.{option_map_or}
use Rattle.std.proofs.lemmas.Bool.{cases_lt, cases_eq}
use Rattle.std.proofs.lemmas.Option.{slice_get_within}
use Rattle.gp_base.specs.declared.ending.End.{End}
use Rattle.gp_base.specs.declared.journal.Event.TheVariants as event
use Rattle.task_ast.specs.declared.sync.SyncOp.{SyncOp}
use Rattle.task_ast.specs.declared.sync.SyncOp.TheVariants as sync
use Rattle.task_ast.specs.declared.sync.Next.{Next}
use Rattle.task_ast.specs.meaning.Control.{Point}
use Rattle.task_ast.specs.meaning.Repeat.{Again, More, Done}
use Rattle.task_ast.specs.meaning.Table.{is_settle, ring}
use Rattle.task_ast.specs.Table.{Table, next_of, last_in}
use Rattle.task_ast.specs.meaning.Turn.{child_of}
use Rattle.task_ast.specs.Turn.{Turn, Issue, Needs, Ended, Look, To, Unknown, NoThread, at_look, look, turn}
use Rattle.task_ast.specs.laws.Threads.{SameThreads, HasBegun, with_child}
use Rattle.task_ast.specs.laws.Standing.{Agrees, IsIssuedBy, TurnTells, passes, issues, needs, ends}
use Rattle.task_ast.specs.meaning.Plain.{start_point, task_at, Subthread}
use Rattle.task_ast.specs.Plain.{tree_machine, end}
use Rattle.task_ast.specs.meaning.Position.{last_below}
use Rattle.task_ast.specs.Position.{IsStep}
use Rattle.task_ast.proofs.Standings.{agrees, turns_tell}
use Rattle.task_ast.proofs.Positions.{step_is, plain_stands}
use Rattle.task_ast.proofs.TurnLaws.{pass_law, issue_law}
use Rattle.task_ast.proofs.IssuedTables.{get_push, get_last, get_past, length_push, last_inside}
use Rattle.dependence.specs.meaning.Restarts.{NoneDue}
use Rattle.dependence.specs.meaning.Journal.{Stage, Allowed, MayFollow, WasTaken, happens}
use Rattle.dependence.specs.Standing.{NamesIssued}
use Rattle.token_order.specs.Turned.{unknown_of, needed_at}
use Rattle.whole_run.specs.View.{Batch, program_in, run_in, dependence_in}
use Rattle.whole_run.specs.inner.RingStands.{plain_before, point_before, IsLearnt, RingStands, StartIs, places_after}
use Rattle.whole_run.proofs.Options.{some_none, none_some, some_same}

-- where the next synchronisation of the thread that the token comes to isn't known, a turn needs it
pub turn_needs : (table : Table) (t : ℕ) → needed_at table ≡ Some t → turn table ≡ Done (Needs t)
turn_needs table t e = go (look table (ring table.token (length table.seats))) e
  where
    go : (l : Look) → unknown_of l ≡ Some t → at_look l table ≡ Done (Needs t)
    go (Unknown u) e = ap (λ v. Done (Needs v)) (some_same e)
    go (To u next) e = absurd (none_some e)
    go NoThread e = absurd (none_some e)

module _ (batch : Batch) {Place : Type 0} (IsPlace : (thread : ℕ) → SyncOp → Place → Point → Type 0) (at : Stage) (table : Table)
    (places : List Place) (holds : RingStands batch IsPlace at table places) where
  abbrev p : ℕ
  p = at.progress.front

  -- what the turn tells
  tells : (answer : Again Table Turn) → turn table ≡ answer
      → TurnTells (program_in batch) batch.inputs batch.limits at.progress.front table answer
  tells answer e =
      subst (TurnTells (program_in batch) batch.inputs batch.limits p table) e
      (turns_tell (tree_machine (program_in batch) batch.inputs batch.limits)
      (program_in batch) batch.inputs batch.limits p table holds.stands)

  -- what the table has of the run's own
  pub same_run : Agrees (program_in batch) batch.inputs batch.limits at.progress.front table
  same_run = agrees (tree_machine (program_in batch) batch.inputs batch.limits)
      (program_in batch) batch.inputs batch.limits p table holds.stands

  -- a pass
  pub ring_passed : (after : Table) → turn table ≡ More after → RingStands batch IsPlace at after places
  ring_passed after e = go (tells (More after) e)
    where
      same : SameThreads table after
      same = pass_law table after e

      go : TurnTells (program_in batch) batch.inputs batch.limits p table (More after) → RingStands batch IsPlace at after places
      go (passes stands) =
          record {
            stands = stands;
            learnt = record {
              unknown = λ t l none. let h = holds.learnt.unknown t (let s = same.threads in omega arith) (sym (same.next t) ∙ none) in
                  (h.0, same.last t ∙ h.1, h.2);
              known = λ t q last some. holds.learnt.known t q (sym (same.last t) ∙ last) (λ none. some (same.next t ∙ none));
            };
            places_are = holds.places_are ∙ sym same.threads;
            place_is = λ t place next here known. holds.place_is t place next here (sym (same.next t) ∙ known);
          }

  -- a next synchronisation that is needed is that after a position which was issued and never taken
  pub ring_needs : (t : ℕ) → turn table ≡ Done (Needs t)
      → (q : ℕ) × (last_in table t ≡ Some q) × (q < at.progress.front) × (WasTaken at q → ⊥)
  ring_needs t e = go (tells (Done (Needs t)) e)
    where
      go : TurnTells (program_in batch) batch.inputs batch.limits p table (Done (Needs t))
          → (q : ℕ) × (last_in table t ≡ Some q) × (q < p) × (WasTaken at q → ⊥)
      go (needs l none) =
          let h = holds.learnt.unknown t l none in
          let left = same_run.left t h.0 h.1 in
          (h.0, h.1, subst (λ n. h.0 < n) before_issued left.earlier, h.2)
        where
          before_issued : (plain_before batch p).table.issued ≡ p
          before_issued = (plain_stands (tree_machine (program_in batch) batch.inputs batch.limits)
              (program_in batch) batch.inputs batch.limits p holds.stands.within).issued

  -- the end
  pub ring_ends : (ending : End) → turn table ≡ Done (Ended ending)
      → (at.progress.front ≡ (dependence_in batch).count) × (end (program_in batch) batch.inputs batch.limits ≡ ending)
  ring_ends ending e = go (tells (Done (Ended ending)) e)
    where
      go : TurnTells (program_in batch) batch.inputs batch.limits p table (Done (Ended ending))
          → (p ≡ (dependence_in batch).count) × (end (program_in batch) batch.inputs batch.limits ≡ ending)
      go (ends last is) = (last, is)

  -- an issue
  module _ (t : ℕ) (next : Next) (child : Option ℕ) (after : Table) (is : turn table ≡ Done (Issue t next child after)) where
    pub told : IsIssuedBy (tree_machine (program_in batch) batch.inputs batch.limits)
        (program_in batch) batch.inputs batch.limits at.progress.front table t next child after
    told = go (tells (Done (Issue t next child after)) is)
      where
        go : TurnTells (program_in batch) batch.inputs batch.limits p table (Done (Issue t next child after))
            → IsIssuedBy (tree_machine (program_in batch) batch.inputs batch.limits)
            (program_in batch) batch.inputs batch.limits p table t next child after
        go (issues h) = h

    pub begun : HasBegun table t next child after
    begun = issue_law table t next child after is

    pub below : at.progress.front < length (run_in batch)
    below = slice_get_within (run_in batch) p told.subthread told.position

    -- the step of the plain run at the front
    step : IsStep (tree_machine (program_in batch) batch.inputs batch.limits) (plain_before batch p) told.subthread
        (plain_before batch (suc p))
    step = step_is (tree_machine (program_in batch) batch.inputs batch.limits)
        (program_in batch) batch.inputs batch.limits p told.subthread told.position

    follows : MayFollow at (last_in table t)
    follows = go (last_in table t) refl
      where
        go : (o : Option ℕ) → last_in table t ≡ o → MayFollow at o
        go None e = tt
        go (Some q) e = holds.learnt.known t q e (λ none. some_none (sym begun.known ∙ none))

    -- the next position may be issued
    pub may_issue : NoneDue batch.faults at.progress → (is_settle next.sync ≡ true → at.retired ≡ at.progress.front)
        → Allowed (dependence_in batch) batch.faults at (event.Issue at.progress.front)
    may_issue none_due alone =
        record {
          next = refl;
          left = below;
          none_due = none_due;
          follows = subst (MayFollow at)
              (sym (ap (option_and_then (λ s. last_below (run_in batch) s.thread p)) told.position
              ∙ (ap (λ u. last_below (run_in batch) u p) told.thread ∙ same_run.lasts t))) follows;
          settled = λ settles. alone (ap (λ (n : Next). is_settle n.sync) (sym told.begins)
              ∙ (ap (λ o. option_map_or (λ (s : Subthread). is_settle s.begins.sync) o false) (sym told.position) ∙ settles));
        }

    -- where the thread stood
    pub begins_at : (place : Place) → slice_get places t ≡ Some place
        → IsPlace told.subthread.thread told.subthread.begins.sync place (point_before batch at.progress.front told.subthread.thread)
    begins_at place here =
        subst (λ u. IsPlace u told.subthread.begins.sync place (point_before batch p u)) (sym told.thread)
        (subst (λ (n : Next). IsPlace t n.sync place (point_before batch p t)) (sym told.begins)
        (holds.place_is t place next here begun.known))

    module _ (start : Option Place) (started : StartIs batch IsPlace (length table.seats) next.sync start) (issued : NamesIssued at) where
      learnt_then : IsLearnt (happens (dependence_in batch) batch.faults at (event.Issue p)) after
      learnt_then = record { unknown = unknown; known = known }
        where
          issued_is : table.issued ≡ p
          issued_is = same_run.issued

          unknown : (u : ℕ) → u < length after.seats → next_of after u ≡ None → (q : ℕ) × (last_in after u ≡ Some q) × (WasTaken at q → ⊥)
          unknown u l none = elim (cases_eq u t) [
            | inl same ↦ (
              p,
              ap (last_in after) same ∙ (begun.last ∙ ap Some issued_is),
              λ taken. let k = issued.taken p taken.0 taken.1 in
                  omega arith,
            )
            | inr ne ↦ elim (cases_lt u (length table.seats)) [
              | inl k ↦
                  (let o = begun.others u ne k in
                  let h = holds.learnt.unknown u k (sym o.0 ∙ none) in
                  (h.0, o.1 ∙ h.1, h.2))
              | inr k ↦ absurd (some_none (sym (begun.further u k l).1 ∙ none))
            ]
          ]

          known : (u q : ℕ) → last_in after u ≡ Some q → next_of after u ≢ None → WasTaken at q
          known u q last some = elim (cases_eq u t) [
            | inl same ↦ absurd (some (ap (next_of after) same ∙ begun.unknown))
            | inr ne ↦ elim (cases_lt u (length table.seats)) [
              | inl k ↦ (let o = begun.others u ne k in holds.learnt.known u q (sym o.1 ∙ last) (λ none. some (o.0 ∙ none)))
              | inr k ↦ absurd (some_none (sym last ∙ (begun.further u k (last_inside after.seats u q last)).2))
            ]
          ]

      places_then : length (places_after places start) ≡ length after.seats
      places_then = go next.sync start started (begun.threads ∙ ap (λ c. with_child c (length table.seats)) begun.child_is)
        where
          go : (op : SyncOp) (start : Option Place) → StartIs batch IsPlace (length table.seats) op start
              → length after.seats ≡ with_child (child_of op (length table.seats)) (length table.seats)
              → length (places_after places start) ≡ length after.seats
          go (sync.Fork task arguments) (Some c) s e = length_push places c ∙ (ap suc holds.places_are ∙ sym e)
          go (sync.Fork task arguments) None s e = absurd s
          go op start s e = ap (λ o. length (places_after places o)) s ∙ (holds.places_are ∙ sym e)

      place_then : (u : ℕ) (place : Place) (other : Next) → slice_get (places_after places start) u ≡ Some place
          → next_of after u ≡ Some other → IsPlace u other.sync place (point_before batch (suc p) u)
      place_then u place other here known = elim (cases_eq u t) [
        | inl same ↦ absurd (some_none (sym known ∙ (ap (next_of after) same ∙ begun.unknown)))
        | inr ne ↦ elim (cases_lt u (length table.seats)) [
          | inl l ↦ subst (IsPlace u other.sync place) (sym (stays u ne l))
              (holds.place_is u place other (sym (got u start (let e = holds.places_are in omega arith)) ∙ here)
              (sym (begun.others u ne l).0 ∙ known))
          | inr l ↦
              (let within = slice_get_within (places_after places start) u place here in
              let starts = (begun.further u l (let e = places_then in omega arith)).1 in
              subst (λ (n : Next). IsPlace u n.sync place (point_before batch (suc p) u)) (some_same (sym starts ∙ known))
              (further l next.sync refl start started here))
        ]
      ]
        where
          stays : (u : ℕ) → (u ≡ t → ⊥) → u < length table.seats → point_before batch (suc p) u ≡ point_before batch p u
          stays u ne l = (step.others u (λ e. ne (e ∙ told.thread)) (let e = same_run.threads in omega arith)).1

          got : (u : ℕ) (start : Option Place) → u < length places → slice_get (places_after places start) u ≡ slice_get places u
          got u None l = refl
          got u (Some c) l = get_push places c u l

          further : length table.seats ≤ u → (op : SyncOp) → next.sync ≡ op → (start : Option Place)
              → StartIs batch IsPlace (length table.seats) op start
              → slice_get (places_after places start) u ≡ Some place → IsPlace u sync.Start place (point_before batch (suc p) u)
          further l (sync.Fork task arguments) e (Some c) s here =
              let within = slice_get_within (places ++ c ∷ []) u place here in
              let n = length_push places c in
              let u_is : length table.seats ≡ u = (let a = holds.places_are in omega arith) in
              let is_place : c ≡ place = some_same (sym (get_last places c)
              ∙ (ap (slice_get (places ++ c ∷ [])) (holds.places_are ∙ u_is) ∙ here)) in
              subst (λ v. IsPlace v sync.Start place (point_before batch (suc p) v)) u_is
              (subst (IsPlace (length table.seats) sync.Start place) (sym (child_point task arguments e))
              (subst (λ x. IsPlace (length table.seats) sync.Start x
              (start_point (task_at (program_in batch) task) (length table.seats) arguments)) is_place s))
            where
              child_point : (task : ℕ) (arguments : List ℤ) → next.sync ≡ sync.Fork task arguments
                  → point_before batch (suc p) (length table.seats) ≡ start_point (task_at (program_in batch) task)
                  (length table.seats) arguments
              child_point task arguments e =
                  subst (λ n. point_before batch (suc p) n ≡ start_point (task_at (program_in batch) task) n arguments)
                  (sym same_run.threads) (step.forked task arguments (ap (λ s. s.sync) told.begins ∙ e)).1
          further l (sync.Fork task arguments) e None s here = absurd s
          further l op e start s here =
              absurd (some_none (sym here ∙ (ap (λ o. slice_get (places_after places o) u) s
              ∙ get_past places u (let a = holds.places_are in omega arith))))

      pub ring_issued : RingStands batch IsPlace (happens (dependence_in batch) batch.faults at (event.Issue at.progress.front)) after
          (places_after places start)
      ring_issued =
          record {
            stands = subst (λ n. Rattle.task_ast.specs.laws.Standing.Stands (program_in batch) batch.inputs batch.limits n after) front_is
                told.stands;
            learnt = learnt_then;
            places_are = places_then;
            place_is = subst (λ n. (u : ℕ) (place : Place) (other : Next) → slice_get (places_after places start) u ≡ Some place
                → next_of after u ≡ Some other → IsPlace u other.sync place (point_before batch n u)) front_is place_then;
          }
        where
          front_is : suc p ≡ p + 1
          front_is = omega arith
