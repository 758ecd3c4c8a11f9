-- What a row leaves that is replayed: the course stands where the run does after the row.
use Rattle.std.proofs.Common.{◌≡◌, ℕ, ℤ, ◌<◌, ◌≤◌, true, false, List, [], length, map, get_or, option_map, Option, refl, sym, ap, ◌∙◌, subst}
use Rattle.std.specs.Prelude.{All, slice_set}
use Rattle.std.proofs.lemmas.List.{map-set}
use Rattle.std.proofs.lemmas.List.Elements.{All-map}
use Rattle.task_ast.specs.declared.sync.Next.{Next}
use Rattle.task_ast.specs.meaning.Tree.{Program}
use Rattle.task_ast.specs.meaning.Body.{Body}
use Rattle.task_ast.specs.meaning.Control.{Point}
use Rattle.task_ast.specs.meaning.State.{State}
use Rattle.task_ast.specs.meaning.Effect.{after}
use Rattle.task_ast.specs.Table.{learning}
use Rattle.task_ast.specs.meaning.Under.{is_under}
use Rattle.task_ast.specs.meaning.Plain.{Subthread}
use Rattle.task_ast.specs.Plain.{Plain, tree_machine}
use Rattle.task_ast.specs.Position.{body_by}
use Rattle.task_code.specs.Reading.{Place}
use Rattle.task_code.specs.Relation.{Rests}
use Rattle.record_store.specs.Stored.{state_of, SameShape}
use Rattle.subthread.specs.Tasks.{program_in, body_from}
use Rattle.retirement_log.specs.meaning.Rows.{Retirement}
use Rattle.gp_resume.specs.declared.course.ResumePlan.{ResumePlan}
use Rattle.gp_resume.specs.declared.course.Begun.{Begun}
use Rattle.gp_resume.specs.declared.course.Course.{Course}
use Rattle.gp_resume.specs.meaning.Fitting.{StandsUnder, left_by}
use Rattle.gp_resume.specs.inner.Course.{IsSuited, IsHome, IsSound, AreNumbered, Begins, IsSameRun, Stands, spot_place, run_in}
use Rattle.gp_resume.specs.inner.RowsRead.{write_in, with_cells}
use Rattle.gp_resume.proofs.Tasks.{numbered-set, begun-next, begun-rests}

-- cells that stand under locks are written under them
under-one : (under : List (List ℕ)) (held : List ℕ) (cell : ℤ × ℤ) → StandsUnder under held cell.0
    → is_under under held (write_in cell).0 ≡ true
under-one under held (cell, value) (c, is, passes) = subst (λ n. is_under under held (write_in (n, value)).0 ≡ true) (sym is) passes

pub all-under : (under : List (List ℕ)) (held : List ℕ) (cells : List (ℤ × ℤ)) → All (λ (cell : ℤ × ℤ). StandsUnder under held cell.0) cells
    → All (λ w. is_under under held w.0 ≡ true) (map write_in cells)
all-under under held cells stand =
    All-map (λ w. is_under under held w.0 ≡ true) write_in cells (λ k d less. under-one under held (get_or cells k d) (stand k d less))

-- the effect that a row says
pub effect-said : (row : Retirement) (t u : ℕ) (child other : Option ℕ) → t ≡ u → child ≡ other
    → with_cells (record { thread = t; regs = row.regs; child = option_map (λ c. (c, row.child)) child; prints = [] }) row.cells
    ≡ left_by row u other
effect-said row t u child other threads children = λ i. record {
  thread = threads i;
  writes = map write_in row.cells;
  regs = row.regs;
  child = option_map (λ c. (c, row.child)) (children i);
  prints = [];
}

-- soundness says nothing of the data
pub sound-for : (plan : ResumePlan) (y : Plain) (state : State) → IsSound plan y → IsSound plan (record y { state = state })
sound-for plan y state sound =
    record {
      locks = record {
        points = sound.locks.points;
        owners = sound.locks.owners;
        owned = sound.locks.owned;
        threads = sound.locks.threads;
        ahead = sound.locks.ahead;
      };
      reached = sound.reached;
      whole = sound.whole;
      limit = sound.limit;
    }

module _ (plan : ResumePlan) (suits : IsSuited plan) (x : Plain) (s : Subthread) (y : Plain) (begun : Begun) (course : Course)
    (begins : Begins plan x s y begun course) (row : Retirement) where
  -- where the run stands after the row
  abbrev after_row : Plain
  after_row = record y { state = after (left_by row s.thread s.child) x.state }

  module _ (place : Place) (next : Next)
      (next_is : next
      ≡ (body_from plan.work.now begun.begins.sync begun.child
      (record { at = begun.spot.at; ctl = begun.spot.ctl; me = begun.thread })).next)
      (place_is : place
      ≡ (body_from plan.work.now begun.begins.sync begun.child (record { at = begun.spot.at; ctl = begun.spot.ctl; me = begun.thread })).at)
      (mine : place.me ≡ begun.thread) (left : Course)
      (state : state_of left.store ≡ after (left_by row begun.thread begun.child) (state_of course.store))
      (shape : SameShape course.store left.store) (away : left.store.away ≡ course.store.away)
      (table : left.ring.table ≡ learning course.ring.table begun.thread next)
      (spots : left.spots.items ≡ slice_set course.spots.items begun.thread (record { at = place.at; ctl = place.ctl; me = begun.thread }))
      (issued : left.issued ≡ course.issued) where
    abbrev program : Program
    program = program_in plan.work.now

    abbrev body : Body Point
    body = body_by (tree_machine (program_in plan.work.now) plan.inputs.value plan.limits) x s

    rests : Rests program body.next.sync body.at place
    rests = subst (Rests program body.next.sync body.at) (sym place_is) (begun-rests plan suits x s y begun course begins)

    state-then : state_of left.store ≡ after (left_by row s.thread s.child) x.state
    state-then = state ∙ (λ i. after (left_by row (begins.thread i) (begins.child i)) (begins.state i))

    table-then : left.ring.table ≡ learning course.ring.table s.thread body.next
    table-then = table ∙ (λ i. learning course.ring.table (begins.thread i) ((next_is ∙ begun-next plan suits x s y begun course begins) i))

    points-then : map spot_place left.spots.items ≡ slice_set (map spot_place course.spots.items) s.thread place
    points-then =
        ap (map spot_place) spots
        ∙ map-set spot_place course.spots.items begun.thread (record { at = place.at; ctl = place.ctl; me = begun.thread })
        ∙ (λ i. slice_set (map spot_place course.spots.items) (begins.thread i)
        (record { at = place.at; ctl = place.ctl; me = sym mine i }))

    same-then : IsSameRun plan after_row (run_in left)
    same-then =
        subst (IsSameRun plan after_row)
        (λ i. record { table = sym table-then i; points = sym points-then i; state = sym state-then i })
        (begins.leads place (after (left_by row s.thread s.child) x.state) rests)

    home-then : IsHome plan y.table left.store
    home-then =
        record {
          threads = subst (λ n. length y.table.seats ≤ n) (sym shape.threads) begins.home.threads;
          cells = shape.cells ∙ begins.home.cells;
          under = shape.under ∙ begins.home.under;
          locks = ap length away ∙ begins.home.locks;
          home = subst (All (λ away. away ≡ false)) (sym away) begins.home.home;
        }

    spot-there : begun.thread < length course.spots.items
    spot-there = rw (begins.thread, begins.spots) begins.seats

    pub stands-replayed : Stands plan after_row left
    stands-replayed =
        record {
          same = same-then;
          sound = sound-for plan y (after (left_by row s.thread s.child) x.state) begins.after;
          home = subst (λ table. IsHome plan table left.store) same-then.table home-then;
          numbered = subst (AreNumbered plan) (sym spots)
              (numbered-set plan course.spots.items begun.thread (record { at = place.at; ctl = place.ctl; me = begun.thread }) refl
              spot-there begins.numbered);
          issued = issued ∙ begins.issued;
        }
