-- The ring and the places after a result was taken. Each thread's last position is its own, so that a result at a
-- position tells what one thread does next, where that is awaited from this position. Then the table learns it and the
-- thread's place is set; otherwise neither changes.
use Rattle.std.proofs.Common.{◌≡◌, inl, inr, ℕ, ◌<◌, Bool, cond, List, [], ◌∷◌, length, Option, Some, None, is_none, refl, sym, ap, ◌∙◌, subst, arith}
use Rattle.std.specs.Prelude.{◌≢◌, ◌⊎◌, slice_get, slice_set}
use Rattle.std.proofs.lemmas.Bool.{cases_eq}
use Rattle.std.proofs.lemmas.List.Elements.{Contains-append_left, Contains-push, Contains-push_cases}
use Rattle.gp_base.specs.declared.journal.Event.TheVariants as event
use Rattle.task_ast.specs.declared.sync.SyncOp.{SyncOp}
use Rattle.task_ast.specs.declared.sync.Next.{Next}
use Rattle.task_ast.specs.meaning.Control.{Point}
use Rattle.task_ast.specs.Table.{Table, next_of, last_in, learning}
use Rattle.task_ast.specs.laws.Standing.{Stands}
use Rattle.task_ast.specs.meaning.Plain.{Subthread}
use Rattle.task_ast.specs.Plain.{tree_machine}
use Rattle.task_ast.specs.Position.{LeftBy, body_at}
use Rattle.task_ast.proofs.Standings.{learn_stands}
use Rattle.task_ast.proofs.IssuedTables.{get_set_here, get_set_other, length_set, learnt_here, learnt_other, learnt_last, learnt_length, last_inside}
use Rattle.dependence.specs.meaning.Journal.{Stage, WasTaken, happens}
use Rattle.token_order.specs.View.{awaited}
use Rattle.whole_run.specs.View.{Batch, program_in, run_in, dependence_in}
use Rattle.whole_run.specs.inner.RingStands.{plain_before, point_before, IsLearnt, RingStands}
use Rattle.whole_run.proofs.Options.{some_none, some_same}
use Rattle.whole_run.proofs.RingIssues.{same_run}

-- the thread whose next synchronisation is awaited from a position
pub awaited-is : (table : Table) (t q : ℕ) → awaited table t ≡ Some q → (next_of table t ≡ None) × (last_in table t ≡ Some q)
awaited-is table t q e = go (next_of table t) refl e
  where
    go : (o : Option Next) → next_of table t ≡ o → cond (is_none o) (last_in table t) None ≡ Some q
        → (next_of table t ≡ None) × (last_in table t ≡ Some q)
    go None is e = (is, e)
    go (Some next) is e = absurd (cc e)

-- one that is awaited is unknown, and its last subthread is the one
pub awaits : (table : Table) (t q : ℕ) → next_of table t ≡ None → last_in table t ≡ Some q → awaited table t ≡ Some q
awaits table t q none last = rw none last

module _ (batch : Batch) {Place : Type 0} (IsPlace : (thread : ℕ) → SyncOp → Place → Point → Type 0) (at : Stage) (table : Table)
    (places : List Place) (holds : RingStands batch IsPlace at table places) (q attempt : ℕ) (applies : Bool) (s : Subthread)
    (position : slice_get (run_in batch) q ≡ Some s) where
  abbrev t : ℕ
  t = s.thread

  abbrev later : Stage
  later = happens (dependence_in batch) batch.faults at (event.Take q attempt applies)

  -- what was taken before stays taken, this is taken, and nothing else
  taken_still : (p : ℕ) → WasTaken at p → WasTaken later p
  taken_still p h = (h.0, Contains-append_left at.taken ((q, attempt) ∷ []) (p, h.0) h.1)

  taken_or : (p : ℕ) → WasTaken later p → WasTaken at p ⊎ (q ≡ p)
  taken_or p w = elim (Contains-push_cases at.taken (q, attempt) (p, w.0) w.1) [
    | inl h ↦ inl (w.0, h)
    | inr e ↦ inr (ap (λ x. x.0) e)
  ]

  -- a thread whose last subthread is at q is that of the subthread
  is_thread : (u : ℕ) → last_in table u ≡ Some q → u ≡ t
  is_thread u last =
      let h = (same_run batch IsPlace at table places holds).left u q last in
      sym h.thread ∙ ap (λ s. s.thread) (some_same (sym h.position ∙ position))

  -- nothing is learnt
  pub ring_stale : (awaited table s.thread ≡ Some q → ⊥)
      → RingStands batch IsPlace (happens (dependence_in batch) batch.faults at (event.Take q attempt applies)) table places
  ring_stale other =
      record {
        stands = holds.stands;
        learnt = record { unknown = unknown; known = λ u p last some. taken_still p (holds.learnt.known u p last some) };
        places_are = holds.places_are;
        place_is = holds.place_is;
      }
    where
      unknown : (u : ℕ) → u < length table.seats → next_of table u ≡ None → (p : ℕ) × (last_in table u ≡ Some p) × (WasTaken later p → ⊥)
      unknown u l none =
          let h = holds.learnt.unknown u l none in (
            h.0,
            h.1,
            λ w. elim (taken_or h.0 w) [
              | inl before ↦ h.2 before
              | inr e ↦
                  (let last : last_in table u ≡ Some q = h.1 ∙ ap Some (sym e) in
                  other (subst (λ v. awaited table v ≡ Some q) (is_thread u last) (awaits table u q none last)))
            ],
          )

  module _ (next : Next) (place : Place) (next_is : next ≡ (body_at (program_in batch) batch.inputs batch.limits q s).next)
      (place_is : IsPlace s.thread next.sync place (body_at (program_in batch) batch.inputs batch.limits q s).at)
      (waits : awaited table s.thread ≡ Some q) where
    none : next_of table t ≡ None
    none = (awaited-is table t q waits).0

    last : last_in table t ≡ Some q
    last = (awaited-is table t q waits).1

    left : LeftBy (tree_machine (program_in batch) batch.inputs batch.limits) (program_in batch) batch.inputs batch.limits
        (plain_before batch at.progress.front) t q
    left = (same_run batch IsPlace at table places holds).left t q last

    pub learner : s.thread < length table.seats
    learner = last_inside table.seats t q last

    table_then : Stands (program_in batch) batch.inputs batch.limits at.progress.front (learning table t next)
    table_then =
        subst (λ next. Stands (program_in batch) batch.inputs batch.limits at.progress.front (learning table t next)) (sym next_is)
        (learn_stands (tree_machine (program_in batch) batch.inputs batch.limits)
        (program_in batch) batch.inputs batch.limits at.progress.front table holds.stands t q s last none position)

    learnt_then : IsLearnt later (learning table t next)
    learnt_then = record { unknown = unknown; known = known }
      where
        unknown : (u : ℕ) → u < length (learning table t next).seats → next_of (learning table t next) u ≡ None
            → (p : ℕ) × (last_in (learning table t next) u ≡ Some p) × (WasTaken later p → ⊥)
        unknown u l gone = elim (cases_eq u t) [
          | inl same ↦ absurd (some_none (sym (ap (next_of (learning table t next)) same ∙ learnt_here table t next learner) ∙ gone))
          | inr ne ↦
              (let h = holds.learnt.unknown u (let e = learnt_length table t next in omega arith)
              (sym (learnt_other table t u next ne) ∙ gone) in (
                h.0,
                learnt_last table t u next ∙ h.1,
                λ w. elim (taken_or h.0 w) [
                  | inl before ↦ h.2 before
                  | inr e ↦ ne (is_thread u (h.1 ∙ ap Some (sym e)))
                ],
              ))
        ]

        known : (u p : ℕ) → last_in (learning table t next) u ≡ Some p → next_of (learning table t next) u ≢ None → WasTaken later p
        known u p there some = elim (cases_eq u t) [
          | inl same ↦
              (let here : last_in table t ≡ Some p = ap (last_in table) (sym same) ∙ (sym (learnt_last table t u next) ∙ there) in
              subst (WasTaken later) (some_same (sym last ∙ here)) (attempt, Contains-push at.taken (q, attempt)))
          | inr ne ↦ taken_still p (holds.learnt.known u p (sym (learnt_last table t u next) ∙ there)
              (λ gone. some (learnt_other table t u next ne ∙ gone)))
        ]

    places_then : (u : ℕ) (other : Place) (what : Next) → slice_get (slice_set places t place) u ≡ Some other
        → next_of (learning table t next) u ≡ Some what → IsPlace u what.sync other (point_before batch at.progress.front u)
    places_then u other what here known = elim (cases_eq u t) [
      | inl same ↦
          (let is_place : place ≡ other =
          some_same (sym (get_set_here places t place (let l = learner in let e = holds.places_are in omega arith))
          ∙ (ap (slice_get (slice_set places t place)) (sym same) ∙ here)) in
          let is_next : next ≡ what = some_same (sym (learnt_here table t next learner)
          ∙ (ap (next_of (learning table t next)) (sym same) ∙ known)) in
          let point_is = left.point ∙ ap (λ s. (body_at (program_in batch) batch.inputs batch.limits q s).at)
          (some_same (sym left.position ∙ position)) in
          subst (λ v. IsPlace v what.sync other (point_before batch at.progress.front v)) (sym same)
          (subst (λ (n : Next). IsPlace t n.sync other (point_before batch at.progress.front t)) is_next
          (subst (IsPlace t next.sync other) (sym point_is)
          (subst (λ x. IsPlace t next.sync x (body_at (program_in batch) batch.inputs batch.limits q s).at) is_place place_is))))
      | inr ne ↦ holds.place_is u other what (sym (get_set_other places t u place ne) ∙ here) (sym (learnt_other table t u next ne) ∙ known)
    ]

    -- the next synchronisation and the place are learnt
    pub ring_learnt : RingStands batch IsPlace (happens (dependence_in batch) batch.faults at (event.Take q attempt applies))
        (learning table s.thread next) (slice_set places s.thread place)
    ring_learnt =
        record {
          stands = table_then;
          learnt = learnt_then;
          places_are = length_set places t place ∙ (holds.places_are ∙ sym (learnt_length table t next));
          place_is = places_then;
        }

-- an event that leaves the front and what was taken as they are
pub ring_same : (batch : Batch) {Place : Type 0} (IsPlace : (thread : ℕ) → SyncOp → Place → Point → Type 0) (at onward : Stage)
    (table : Table) (places : List Place)
    → onward.progress.front ≡ at.progress.front → onward.taken ≡ at.taken → RingStands batch IsPlace at table places
    → RingStands batch IsPlace onward table places
ring_same batch IsPlace at onward table places front taken holds =
    record {
      stands = subst (λ p. Stands (program_in batch) batch.inputs batch.limits p table) (sym front) holds.stands;
      learnt = record {
        unknown = λ t l none. let h = holds.learnt.unknown t l none in
            (h.0, h.1, λ w. h.2 (w.0, subst (λ taken. Rattle.std.specs.Prelude.Contains taken (h.0, w.0)) taken w.1));
        known = λ t q last some. let w = holds.learnt.known t q last some in
            (w.0, subst (λ taken. Rattle.std.specs.Prelude.Contains taken (q, w.0)) (sym taken) w.1);
      };
      places_are = holds.places_are;
      place_is = λ t place next here known. subst (λ p. IsPlace t next.sync place (point_before batch p t)) (sym front)
          (holds.place_is t place next here known);
    }
