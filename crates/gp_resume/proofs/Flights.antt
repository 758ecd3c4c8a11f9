-- Subthreads that go out beside one another, and come home in order.
--
-- A course at rest has none out. A turn that passes keeps those that are out, and one that issues joins one more to them, which is lent its
-- cells. Once the first of them comes home with its run, the course has the data of the run after it. Where none is out any more, it is at
-- rest where the run has come to.
use Rattle.std.proofs.Common.{◌≡◌, ℕ, ◌+◌, ◌<◌, ◌≤◌, Bool, true, false, List, [], ◌∷◌, ◌++◌, length, map, get_or, Contains, Option, Some, None, unwrap_or, refl, sym, ap, ◌∙◌, subst, arith}
use Rattle.std.specs.Prelude.{◌||◌, All, slice_get, slice_set}
use Rattle.std.specs.List.Sorted.{IsStrictlyIncreasing}
use Rattle.std.proofs.lemmas.Bool.{false≢true}
use Rattle.std.proofs.lemmas.List.{length-map, map-set}
use Rattle.std.proofs.lemmas.List.Elements.{All-contains, Contains-get_or}
use Rattle.std.proofs.lemmas.Option.{slice_get-get_or}
use Rattle.task_ast.specs.declared.sync.SyncOp.{SyncOp}
use Rattle.task_ast.specs.declared.sync.SyncOp.TheVariants as sync
use Rattle.task_ast.specs.declared.sync.Next.{Next}
use Rattle.task_ast.specs.meaning.Control.{Point}
use Rattle.task_ast.specs.meaning.Effect.{effect, after}
use Rattle.task_ast.specs.meaning.Repeat.{More, Done as TurnDone}
use Rattle.task_ast.specs.meaning.State.{State}
use Rattle.task_ast.specs.meaning.Table.{owned_from, is_settle}
use Rattle.task_ast.specs.Table.{Table, learning}
use Rattle.task_ast.specs.Turn.{Issue, turn}
use Rattle.task_ast.specs.meaning.Tree.{Program}
use Rattle.task_ast.specs.meaning.Under.{is_under}
use Rattle.task_ast.specs.laws.Less.{KnowsLess}
use Rattle.task_ast.specs.laws.Threads.{HasBegun, with_child}
use Rattle.task_ast.specs.Reached.{Reached, by_pass}
use Rattle.task_ast.specs.SyncOps.{IsNumbered, joined_by}
use Rattle.record_store.specs.Given.{given_of, bundle_of}
use Rattle.dependence.proofs.DependentSets.{is_member-is}
use Rattle.task_ast.specs.laws.Standing.{PassesTo, at_once, by_turn}
use Rattle.task_ast.specs.Plain.{Plain, Machine, tree_machine, points_with, point_by, settled_by}
use Rattle.task_ast.specs.Position.{body_by, from_in}
use Rattle.task_ast.proofs.LessSeats.{seats_same}
use Rattle.task_ast.proofs.LessTurns.{turn_alike}
use Rattle.task_ast.proofs.Standings.{passed_same}
use Rattle.task_ast.proofs.TurnLaws.{pass_law}
use Rattle.task_ast.proofs.IssuedTables.{learnt_length, length_set}
use Rattle.task_code.specs.Reading.{Place}
use Rattle.task_code.specs.Relation.{Rests}
use Rattle.record_store.specs.Lent.{marked, lock_in, put_back, whole_effect, MayComeHome}
use Rattle.record_store.specs.Stored.{state_of, IsAtHome, IsAway}
use Rattle.record_store.proofs.Marks.{length-marked}
use Rattle.token_order.specs.View.{Roomy}
use Rattle.subthread.specs.declared.task.Done.{Done}
use Rattle.subthread.specs.Tasks.{program_in, machine_of, under_of, task_of, place_left, IsRun, Fits}
use Rattle.subthread.proofs.HeldLocks.{owned_below}
use Rattle.subthread.proofs.Lendings.{all-locks, as-lent}
use Rattle.subthread.proofs.Among.{same_locks_back}
use Rattle.gp_resume.specs.declared.course.ResumePlan.{ResumePlan}
use Rattle.gp_resume.specs.declared.course.Spot.{Spot}
use Rattle.gp_resume.specs.declared.course.Course.{Course}
use Rattle.gp_resume.specs.declared.course.Begun.{Begun}
use Rattle.gp_resume.specs.inner.Course.{spot_place, IsSuited, AreNumbered}
use Rattle.gp_resume.specs.inner.Turning.{settled_place, IsIssued}
use Rattle.gp_resume.specs.inner.Handed.{task_begun, IsLeft}
use Rattle.gp_resume.specs.inner.Flights.{Flown, Each, is_lent, IsFree, AllFree, IsFlown, Chain, KnowsBut, RestsAlike, IsLending, Flight, Joins, StandsPast, task_from}
use Rattle.gp_resume.proofs.FlightTables.{issued, grown, each-push, table-known, issue-alike, same-threads, knows-past, knows-learnt, rests-learnt, moves, step, sound-after, keeps, has-begun, flown, knows-issued, free-all, rests-issued, places-count}
use Rattle.gp_resume.proofs.FlightData.{flown-step, task-same, free-lock, away-push, away-pop}
use Rattle.gp_resume.proofs.FlownTasks.{numbered as flown-numbered, rising as flown-rising, fits as flown-fits, thread-is, effect-is, next-is, rests as run-rests, came, locks-came}
use Rattle.gp_resume.proofs.Moved.{one-more, settled-rests}
use Rattle.gp_resume.proofs.Tasks.{numbered-set}
use Rattle.gp_resume.proofs.TurnsTaken.{settled-is, follows-code, child-state, child-threads, get-map, spot-there, settled-me, numbered-after}

none-some : {X : Type 0} {x : X} → None ≡ Some x → ⊥
none-some e = cc e

some-same : {X : Type 0} {a b : X} → Some a ≡ Some b → a ≡ b
some-same {a = a} e = ap (λ o. unwrap_or o a) e

-- ---- lists

chain-push : (plan : ResumePlan) (x : Plain) (fs : List Flown) (f : Flown) → Chain plan x fs f.before → IsFlown plan f
    → Chain plan x (fs ++ f ∷ []) f.after
chain-push plan x [] f chain flown = (sym chain, flown, refl)
chain-push plan x (g ∷ fs) f chain flown = (chain.0, chain.1, chain-push plan g.after fs f chain.2 flown)

free-push : (fs : List Flown) (f : Flown) → AllFree fs → Each (λ (e : Flown). IsFree e.subthread f.subthread) fs → AllFree (fs ++ f ∷ [])
free-push [] f free of = (tt, tt)
free-push (g ∷ fs) f free of =
    (each-push (λ (h : Flown). IsFree g.subthread h.subthread) fs f free.0 of.0, free-push fs f free.1 of.1)

-- what holds of each by its place holds of all
all-from : (xs : List Bool) → ((l : ℕ) → l < length xs → slice_get xs l ≡ Some false) → All (λ away. away ≡ false) xs
all-from xs each k d less = some-same (sym (slice_get-get_or xs k d less) ∙ each k less)

-- what does not begin with a settle begins where its thread stands, whatever the data
settled-calm : (op : SyncOp) (t : ℕ) (state : State) (place : Place) → is_settle op ≡ false → settled_place op t state place ≡ place
settled-calm (sync.Settle register control) t state place e = absurd (false≢true (sym e))
settled-calm _ t state place e = refl

from-calm : (machine : Machine Point) (op : SyncOp) (t : ℕ) (state : State) (point : Point) → is_settle op ≡ false
    → settled_by machine op t state point ≡ point
from-calm machine (sync.Settle register control) t state point e = absurd (false≢true (sym e))
from-calm machine _ t state point e = refl

module _ (plan : ResumePlan) (suits : IsSuited plan) where
  abbrev program : Program
  program = program_in plan.work.now

  abbrev m : Machine Point
  m = tree_machine (program_in plan.work.now) plan.inputs.value plan.limits

  abbrev n : Machine Place
  n = machine_of plan.work.now

  -- where nothing settles, or the data are those of the run, the thread begins alike in the run and in the code
  pub starts-calm : (op : SyncOp) (t : ℕ) (left right : State) → is_settle op ≡ false
      → (point : Point) (place : Place) → Rests (program_in plan.work.now) op point place
      → Rests (program_in plan.work.now) op
      (settled_by (tree_machine (program_in plan.work.now) plan.inputs.value plan.limits) op t left point) (settled_place op t right place)
  starts-calm op t left right calm point place rests =
      subst (λ p. Rests program op p (settled_place op t right place)) (sym (from-calm m op t left point calm))
      (subst (Rests program op point) (sym (settled-calm op t right place calm)) rests)

  pub starts-same : (op : SyncOp) (t : ℕ) (left right : State) → left ≡ right
      → (point : Point) (place : Place) → Rests (program_in plan.work.now) op point place
      → Rests (program_in plan.work.now) op
      (settled_by (tree_machine (program_in plan.work.now) plan.inputs.value plan.limits) op t left point) (settled_place op t right place)
  starts-same op t left right same point place rests =
      subst (Rests program op (settled_by m op t left point)) (settled-is plan.work.now op t right place)
      (settled-rests (Rests program) m n (follows-code plan suits) op t left right point place same rests)

  -- ---- none is out

  pub flight-none : (x : Plain) (course : Course) → StandsPast plan x course → (threads : ℕ) → threads ≤ length x.table.seats
      → Flight plan threads x x [] course
  flight-none x course past threads all =
      record {
        chain = refl;
        many = all;
        sound = past.stands.sound;
        free = tt;
        table = record {
          whole = course.ring.table;
          passed = passed;
          less = record { seats = seats_same course.ring.table.seats; limit = refl; barriers = refl; owners = refl; token = refl; issued = refl };
          reached = reached passed;
          known = λ u inside none.
              let known = past.stands.sound.whole.known u (let k = many in omega arith) in
              none-some (sym none ∙ ((passed_same passed).next u ∙ known.1));
          out = tt;
        };
        spots = ap length past.kept.spots ∙ (sym (length-map past.before.spots.items spot_place)
            ∙ (past.stands.same.others ∙ (ap (λ (table : Table). length table.seats) (sym past.stands.same.table) ∙ sym many)));
        rests = λ u next e.
            subst (λ (spots : List Spot). Rests program next.sync (point_by m x u) (unwrap_or (slice_get (map spot_place spots) u) (n.starts 0 u [])))
            (sym past.kept.spots)
            (past.stands.same.rests u next (sym ((passed_same passed).next u) ∙ e));
        numbered = subst (AreNumbered plan) (sym past.kept.spots) past.stands.numbered;
        state = ap state_of past.kept.store ∙ sym past.stands.same.states;
        lending = subst (IsLending plan x []) (sym past.kept.store) (record {
          threads = subst (λ (table : Table). length table.seats ≤ length past.before.store.threads) (sym past.stands.same.table)
              past.stands.home.threads;
          cells = past.stands.home.cells;
          under = past.stands.home.under;
          locks = past.stands.home.locks;
          away = λ l less. slice_get-get_or past.before.store.away l false less ∙ ap Some (past.stands.home.home l false less);
        });
        issued = past.kept.issued ∙ past.stands.issued;
      }
    where
      passed : PassesTo x.table course.ring.table
      passed = subst (λ table. PassesTo table course.ring.table) (sym past.stands.same.table) past.kept.passed

      many : length course.ring.table.seats ≡ length x.table.seats
      many = (passed_same passed).threads

      reached : {table : Table} → PassesTo x.table table → Reached table
      reached at_once = past.stands.sound.reached
      reached (by_turn p e) = by_pass (reached p) e

  -- where none is out any more, the course is at rest
  pub flight-rests : (threads : ℕ) (x y : Plain) (course : Course) → Flight plan threads x y [] course → StandsPast plan y course
  flight-rests threads x y course flight =
      record {
        before = before;
        stands = record {
          same = record {
            table = refl;
            states = sym (flight.state ∙ ap (λ (p : Plain). p.state) flight.chain);
            points = flight.sound.locks.points;
            others = length-map course.spots.items spot_place ∙ (flight.spots ∙ same-threads plan suits threads y [] course.ring.table flight.table);
            rests = λ u next e. flight.rests u next ((passed_same passed).next u ∙ e);
          };
          sound = flight.sound;
          home = record {
            threads = flight.lending.threads;
            cells = flight.lending.cells;
            under = flight.lending.under;
            locks = flight.lending.locks;
            home = all-from course.store.away flight.lending.away;
          };
          numbered = flight.numbered;
          issued = flight.issued;
        };
        kept = record { passed = passed; spots = refl; store = refl; issued = refl };
      }
    where
      before : Course
      before = record course { ring = record course.ring { table = y.table } }

      passed : PassesTo y.table course.ring.table
      passed =
          subst (PassesTo y.table)
          (sym (table-known course.ring.table flight.table.whole flight.table.less (λ u inside none. flight.table.known u inside none)))
          flight.table.passed

  -- ---- a turn that passes

  pub flight-past : (threads : ℕ) (x y : Plain) (fs : List Flown) (now : Course) (ring : Roomy) → Flight plan threads x y fs now
      → turn now.ring.table ≡ More ring.table → Flight plan threads x y fs (record now { ring = ring })
  flight-past threads x y fs now ring flight e =
      let same = pass_law now.ring.table ring.table e in
      record {
        chain = flight.chain;
        many = flight.many;
        sound = flight.sound;
        free = flight.free;
        table = knows-past plan suits threads y fs now.ring.table ring.table flight.table e;
        spots = flight.spots ∙ sym same.threads;
        rests = λ u next there. flight.rests u next (sym (same.next u) ∙ there);
        numbered = flight.numbered;
        state = flight.state;
        lending = flight.lending;
        issued = flight.issued;
      }

  -- ---- an issue

  module _ (threads : ℕ) (x y : Plain) (fs : List Flown) (now : Course) (flight : Flight plan threads x y fs now)
      (t : ℕ) (begins : Next) (child : Option ℕ) (ring : Roomy) (turned : turn now.ring.table ≡ TurnDone (Issue t begins child ring.table))
      (old : t < threads)
      (starts : (point : Point) (place : Place) → Rests (program_in plan.work.now) begins.sync point place
      → Rests (program_in plan.work.now) begins.sync
      (settled_by (tree_machine (program_in plan.work.now) plan.inputs.value plan.limits) begins.sync t y.state point)
      (settled_place begins.sync t (state_of now.store) place))
      (then : Course) (begun : Begun) (is : IsIssued plan.work.now (record now { ring = ring }) then t begins child begun) where
    pub alike : (more : Table) × (turn flight.table.whole ≡ TurnDone (Issue t begins child more)) × KnowsLess ring.table more
    alike = issue-alike now.ring.table t begins child ring.table (turn now.ring.table) (turn flight.table.whole)
        (turn_alike now.ring.table flight.table.whole flight.table.reached flight.table.less) turned

    abbrev f : Flown
    f = flown plan suits threads y flight.sound fs now.ring.table flight.table t begins child ring.table turned old alike.0 alike.1 alike.2 begun

    abbrev places : List Place
    places = map spot_place now.spots.items

    count : length (map spot_place now.spots.items) ≡ length now.ring.table.seats
    count = length-map now.spots.items spot_place ∙ flight.spots

    begun-so : HasBegun now.ring.table t begins child ring.table
    begun-so =
        has-begun plan suits threads y flight.sound fs now.ring.table flight.table t begins child ring.table turned old alike.0 alike.1 alike.2

    spot : (spot : Spot) × (slice_get now.spots.items t ≡ Some spot)
    spot = spot-there now.spots.items t (let l = begun-so.inside in let k = flight.spots in omega arith)

    spot-is : spot_place begun.spot ≡ settled_place begins.sync t (state_of now.store) (spot_place spot.0)
    spot-is = is.spot spot.0 spot.1

    points-are : points_with n begins.sync (length (map spot_place now.spots.items)) (map spot_place now.spots.items)
        ≡ map spot_place then.spots.items
    points-are =
        ap (λ k. points_with n begins.sync k (map spot_place now.spots.items)) (length-map now.spots.items spot_place) ∙ sym is.points

    from : Rests program begins.sync (from_in program plan.inputs.value plan.limits y begins.sync t) (spot_place begun.spot)
    from =
        subst (Rests program begins.sync (from_in program plan.inputs.value plan.limits y begins.sync t)) (sym spot-is)
        (starts (point_by m y t) (spot_place spot.0)
        (subst (λ o. Rests program begins.sync (point_by m y t) (unwrap_or o (n.starts 0 t []))) (get-map now.spots.items t spot.0 spot.1)
        (flight.rests t begins begun-so.known)))

    is-flown : IsFlown plan f
    is-flown =
        record {
          moves = moves plan suits threads y flight.sound fs now.ring.table flight.table t begins child ring.table turned old alike.0 alike.1 alike.2;
          sound = flight.sound;
          later = sound-after plan suits threads y flight.sound fs now.ring.table flight.table t begins child ring.table turned old
              alike.0 alike.1 alike.2;
          keeps = keeps plan suits threads y flight.sound fs now.ring.table flight.table t begins child ring.table turned old
              alike.0 alike.1 alike.2;
          pos = is.pos ∙ flight.issued;
          thread = is.thread;
          begins = is.begins_so;
          child = is.child_is;
          held = is.held ∙ ap (λ owners. owned_from 0 owners t) alike.2.owners;
          me = ap (λ (place : Place). place.me) spot-is
              ∙ (settled-me begins.sync t (state_of now.store) (spot_place spot.0) ∙ flight.numbered t spot.0 spot.1);
          from = from;
        }

    pub joins : Joins plan threads x fs f then
    joins =
        record {
          chain = flight.chain;
          many =
              let g = grown plan suits threads y flight.sound fs now.ring.table flight.table t begins child ring.table turned old
              alike.0 alike.1 alike.2 in
              let l = flight.many in omega arith;
          flown = is-flown;
          free = flight.free;
          free_of = free-all plan suits threads y flight.sound fs now.ring.table flight.table t begins child ring.table turned old
              alike.0 alike.1 alike.2 begun;
          table = subst (λ (r : Roomy). KnowsBut plan threads f.after (fs ++ f ∷ []) r.table) (sym is.ring)
              (knows-issued plan suits threads y flight.sound fs now.ring.table flight.table t begins child ring.table turned old
              alike.0 alike.1 alike.2 begun flight.many);
          spots = sym (length-map then.spots.items spot_place) ∙ (ap length (sym points-are)
              ∙ (places-count plan suits threads y flight.sound fs now.ring.table flight.table t begins child ring.table turned old
              alike.0 alike.1 alike.2 places count flight.rests
              ∙ ap (λ (r : Roomy). length r.table.seats) (sym is.ring)));
          rests = subst (λ (r : Roomy). RestsAlike plan f.after r.table (map spot_place then.spots.items)) (sym is.ring)
              (subst (RestsAlike plan f.after ring.table) points-are
              (rests-issued plan suits threads y flight.sound fs now.ring.table flight.table t begins child ring.table turned old
              alike.0 alike.1 alike.2 places count flight.rests));
          numbered = numbered-after plan plan.work.now begins.sync now.spots.items then.spots.items is.points flight.numbered;
          state = ap state_of is.store ∙ (child-state begins.sync now.store ∙ flight.state);
          lending = subst (IsLending plan f.after fs) (sym is.store) (record {
            threads =
                let most = child-threads begins.sync (length y.table.seats) now.store.threads flight.lending.threads in
                let st = step plan suits threads y flight.sound fs now.ring.table flight.table t begins child ring.table turned old
                alike.0 alike.1 alike.2 in
                let k = st.threads ∙ ap (λ child. with_child child (length y.table.seats)) st.child in
                omega arith;
            cells = flight.lending.cells;
            under = flight.lending.under;
            locks = flight.lending.locks;
            away = flight.lending.away;
          });
          issued =
              let one = is.issued in let i = flight.issued in
              let more = one-more program plan.inputs.value plan.limits y t begins child alike.0
              (issued plan suits threads y flight.sound fs now.ring.table flight.table t begins child
              ring.table turned old alike.0 alike.1 alike.2) in
              omega arith;
        }

    pub flight-issues : (f : Flown) × (f.begun ≡ begun) × (f.before ≡ y) × Joins plan threads x fs f then
    flight-issues = (f, refl, refl, joins)

  -- ---- it goes out

  module _ (threads : ℕ) (x : Plain) (fs : List Flown) (f : Flown) (course : Course) (joins : Joins plan threads x fs f course) where
    pub joins-numbered : IsNumbered f.begun.begins.sync
    joins-numbered = flown-numbered plan suits f joins.flown

    pub joins-rising : IsStrictlyIncreasing f.begun.held
    joins-rising = flown-rising plan suits f joins.flown

    pub joins-home : All (IsAtHome course.store) f.begun.held
    joins-home k d less =
        let l = get_or f.begun.held k d in
        let holds = subst (λ held. Contains held l) joins.flown.held (Contains-get_or f.begun.held k d less) in
        let below = All-contains (λ l. l < 0 + length f.after.table.owners) (owned_from 0 f.after.table.owners f.subthread.thread) l
        (owned_below 0 f.after.table.owners f.subthread.thread)
        (subst (λ held. Contains held l) (flown-step plan suits f joins.flown).held holds) in
        let owners = joins.flown.later.locks.owners in
        let locks = joins.lending.locks in
        joins.lending.away l (omega arith) ∙ ap Some (free-lock fs f.subthread joins.free_of l holds)

    -- the task that goes out is the one at the start of those that are out
    pub joins-task : task_begun course.store f.begun ≡ task_from plan.work.now x.state f.begun
    joins-task = λ i. record (task_from plan.work.now (joins.state i) f.begun) {
      given = given_of (joins.lending.under i) (joins.state i) f.begun.thread
          (joined_by f.begun.begins.sync) f.begun.held;
    }

    pub joins-fits : Fits plan.work.now (task_from plan.work.now x.state f.begun)
    joins-fits =
        subst (Fits plan.work.now) (sym (task-same plan suits x fs f.before joins.chain f joins.flown joins.free_of))
        (flown-fits plan suits f joins.flown)

    pub flight-joined : (lent : Course)
        → lent ≡ record course { store = record course.store { away = marked f.begun.held true course.store.away } }
        → Flight plan threads x f.after (fs ++ f ∷ []) lent
    flight-joined lent is = subst (Flight plan threads x f.after (fs ++ f ∷ [])) (sym is) (record {
      chain = chain-push plan x fs f joins.chain joins.flown;
      many = joins.many;
      sound = joins.flown.later;
      free = free-push fs f joins.free joins.free_of;
      table = joins.table;
      spots = joins.spots;
      rests = joins.rests;
      numbered = joins.numbered;
      state = joins.state;
      lending = record {
        threads = joins.lending.threads;
        cells = joins.lending.cells;
        under = joins.lending.under;
        locks = length-marked f.begun.held true course.store.away ∙ joins.lending.locks;
        away = subst (λ held. (l : ℕ) → l < length (marked held true course.store.away)
            → slice_get (marked held true course.store.away) l ≡ Some (is_lent (fs ++ f ∷ []) l)) (sym joins.flown.held)
            (away-push fs f course.store.away joins.lending.away);
      };
      issued = joins.issued;
    })

  -- ---- the first comes home

  module _ (threads : ℕ) (x y : Plain) (f : Flown) (fs : List Flown) (course : Course) (flight : Flight plan threads x y (f ∷ fs) course)
      (done : Done) (is_task : task_of plan.work.now done ≡ task_from plan.work.now x.state f.begun) (run : IsRun plan.work.now done) where
    is-flown-first : IsFlown plan f
    is-flown-first = flight.chain.1

    task-here : task_of plan.work.now done ≡ task_from plan.work.now f.before.state f.begun
    task-here = is_task ∙ ap (λ (p : Plain). task_from plan.work.now p.state f.begun) (sym flight.chain.0)

    came-here : put_back course.store.under done.old done.task.given.bundles
        ≡ map (bundle_of course.store.under (state_of course.store)) f.begun.held
    came-here =
        ap (λ under. put_back under done.old done.task.given.bundles) flight.lending.under
        ∙ (came plan suits f is-flown-first done task-here run
        ∙ (λ i. map (bundle_of (sym flight.lending.under i)
        (((ap (λ (p : Plain). p.state) flight.chain.0) ∙ sym flight.state) i)) f.begun.held))

    locks-here : map lock_in done.task.given.bundles ≡ f.subthread.held
    locks-here = locks-came plan suits f is-flown-first done task-here run

    pub first-comes : MayComeHome course.store done.task.given.bundles done.old
    first-comes =
        record {
          away = all-locks (IsAway course.store) done.task.given.bundles
              (λ l among.
              let holds = subst (λ locks. Contains locks l) locks-here among in
              let below = All-contains (λ l. l < 0 + length f.after.table.owners) (owned_from 0 f.after.table.owners f.subthread.thread) l
              (owned_below 0 f.after.table.owners f.subthread.thread)
              (subst (λ held. Contains held l) (flown-step plan suits f is-flown-first).held holds) in
              let owners = is-flown-first.later.locks.owners in
              let locks = flight.lending.locks in
              flight.lending.away l (omega arith)
              ∙ ap (λ b. Some (b || is_lent fs l))
              ((is_member-is l f.subthread.held).1 holds));
          as_lent = subst (λ bundles. bundles ≡ map (λ b. bundle_of course.store.under (state_of course.store) b.lock) bundles)
              (sym came-here) (as-lent course.store.under (state_of course.store) f.begun.held);
          rising = run.rising;
          within = subst (λ under. All (λ w. is_under under (map lock_in done.task.given.bundles) w.0 ≡ true) done.old)
              (sym flight.lending.under)
              (subst (λ ls. All (λ w. is_under (under_of plan.work.now) ls w.0 ≡ true) done.old)
              (same_locks_back (under_of plan.work.now) done.old done.task.given.bundles) run.within);
        }

    first-inside : f.subthread.thread < length course.ring.table.seats
    first-inside = flight.table.out.0.there

    pub first-seat : done.task.thread < length course.ring.table.seats
    first-seat = subst (λ t. t < length course.ring.table.seats) (sym (thread-is plan suits f is-flown-first done task-here run)) first-inside

    pub first-spot : done.task.thread < length course.spots.items
    first-spot = let l = first-seat in let k = flight.spots in omega arith

    abbrev next-here : Next
    next-here = (body_by (tree_machine (program_in plan.work.now) plan.inputs.value plan.limits) f.before f.subthread).next

    pub flight-taken : (left : Course) → IsLeft done course left → Flight plan threads f.after y fs left
    flight-taken left is_left =
        record {
          chain = flight.chain.2;
          many = flight.many;
          sound = flight.sound;
          free = flight.free.1;
          table = subst (KnowsBut plan threads y fs) (sym table-then)
              (knows-learnt plan suits threads y f fs course.ring.table flight.table flight.free.0);
          spots = ap length is_left.spots
              ∙ (length_set course.spots.items done.task.thread
              (record { at = done.at; ctl = done.ctl; me = done.task.thread })
              ∙ (flight.spots
              ∙ (sym (learnt_length course.ring.table f.subthread.thread next-here)
              ∙ ap (λ (table : Table). length table.seats) (sym table-then))));
          rests = subst (λ table. RestsAlike plan y table (map spot_place left.spots.items)) (sym table-then)
              (subst (RestsAlike plan y (learning course.ring.table f.subthread.thread next-here)) (sym points-then)
              (rests-learnt plan suits threads y f fs course.ring.table flight.table flight.free.0 (map spot_place course.spots.items)
              (place_left done) (length-map course.spots.items spot_place ∙ flight.spots) flight.rests
              (run-rests plan suits f is-flown-first done task-here run)));
          numbered = subst (AreNumbered plan) (sym is_left.spots)
              (numbered-set plan course.spots.items done.task.thread (record { at = done.at; ctl = done.ctl; me = done.task.thread }) refl
              first-spot flight.numbered);
          state = is_left.state
              ∙ ((λ i. after (effect-there i) ((flight.state ∙ ap (λ (p : Plain). p.state) (sym flight.chain.0)) i))
              ∙ sym (flown-step plan suits f is-flown-first).state);
          lending = record {
            threads = let same = is_left.shape.threads in let l = flight.lending.threads in omega arith;
            cells = is_left.shape.cells ∙ flight.lending.cells;
            under = is_left.shape.under ∙ flight.lending.under;
            locks = ap length away-then ∙ (length-marked f.subthread.held false course.store.away ∙ flight.lending.locks);
            away = subst (λ away. (l : ℕ) → l < length away → slice_get away l ≡ Some (is_lent fs l)) (sym away-then)
                (away-pop f fs course.store.away flight.free.0 flight.lending.away);
          };
          issued = is_left.issued ∙ flight.issued;
        }
      where
        table-then : left.ring.table ≡ learning course.ring.table f.subthread.thread next-here
        table-then =
            is_left.table
            ∙ (λ i. learning course.ring.table (thread-is plan suits f is-flown-first done task-here run i)
            (next-is plan suits f is-flown-first done task-here run i))

        points-then : map spot_place left.spots.items ≡ slice_set (map spot_place course.spots.items) f.subthread.thread (place_left done)
        points-then =
            ap (map spot_place) is_left.spots
            ∙ (map-set spot_place course.spots.items done.task.thread (record { at = done.at; ctl = done.ctl; me = done.task.thread })
            ∙ ap (λ t. slice_set (map spot_place course.spots.items) t (place_left done))
            (thread-is plan suits f is-flown-first done task-here run))

        away-then : left.store.away ≡ marked f.subthread.held false course.store.away
        away-then = is_left.away ∙ ap (λ locks. marked locks false course.store.away) locks-here

        effect-there : whole_effect course.store.under done.task.given.bundles done.old done.effect
            ≡ effect f.subthread.thread f.subthread.begins.sync f.subthread.child f.subthread.actions f.before.state
        effect-there =
            ap (λ under. whole_effect under done.task.given.bundles done.old done.effect) flight.lending.under
            ∙ effect-is plan suits f is-flown-first done task-here run
