-- The runs of those that are out come home, one after another in order.
use Rattle.std.proofs.Common.{◌≡◌, ℕ, ◌<◌, ◌≤◌, arith, List, [], ◌∷◌, ◌++◌, length, Option, Some, None, refl, sym, ap, ◌∙◌, subst, append_assoc, append-nil}
use Rattle.std.specs.Io.KnownBytes.{Appends}
use Rattle.std.proofs.KnownBytes.{Appends-nil}
use Rattle.gp_base.specs.meaning.Sinks.{AppendsPrefix}
use Rattle.gp_base.proofs.Written.{Appends-append, prefix_first, prefix_second, prefix_all}
use Rattle.task_ast.specs.Plain.{Plain}
use Rattle.restart_log.specs.meaning.Lines.{printed}
use Rattle.task_ast.specs.laws.Threads.{with_child}
use Rattle.record_store.specs.Lent.{MayComeHome}
use Rattle.record_store.specs.Stored.{FitsChild}
use Rattle.subthread.specs.declared.task.Done.{Done}
use Rattle.subthread.specs.Tasks.{task_of, IsRun}
use Rattle.gp_resume.specs.declared.course.ResumePlan.{ResumePlan}
use Rattle.gp_resume.specs.declared.course.Course.{Course}
use Rattle.gp_resume.specs.meaning.Resumed.{lines_of}
use Rattle.gp_resume.specs.inner.Course.{IsSuited}
use Rattle.gp_resume.specs.inner.Handed.{MayTake, IsLeft}
use Rattle.gp_resume.specs.inner.Flights.{Flown, Each, IsFree, IsFlown, Chain, Flight, StandsPast, task_from}
use Rattle.gp_resume.specs.inner.Waves.{tasks_of, subthreads, AreRunsOf, IsRunOf, Homing}
use Rattle.gp_resume.proofs.FlightData.{task-kept, flown-step}
use Rattle.gp_resume.proofs.Flights.{flight-taken, flight-rests, first-comes, first-seat, first-spot}
use Rattle.gp_resume.proofs.FlownTasks.{thread-there, child-there, lines-are}
use Rattle.gp_resume.proofs.Onward.{printed-lines, printed-one}

-- the printed lines of those that have come home and of those that are still to come
lines-split : (done left : List Flown)
    → printed (lines_of (subthreads (done ++ left))) ≡ printed (lines_of (subthreads done)) ++ printed (lines_of (subthreads left))
lines-split done left = ap (λ run. printed (lines_of run)) (both done) ∙ printed-lines (subthreads done) (subthreads left)
  where
    both : (done : List Flown) → subthreads (done ++ left) ≡ subthreads done ++ subthreads left
    both [] = refl
    both (g ∷ done) = ap (λ run. g.subthread ∷ run) (both done)

no-fewer-then : (child : Option ℕ) (n : ℕ) → n ≤ with_child child n
no-fewer-then None n = omega arith
no-fewer-then (Some c) n = omega arith

module _ (plan : ResumePlan) (suits : IsSuited plan) where
  -- no thread goes
  chain-grows : (x : Plain) (fs : List Flown) (y : Plain) → Chain plan x fs y → length x.table.seats ≤ length y.table.seats
  chain-grows x [] y chain = let same = ap (λ (p : Plain). length p.table.seats) chain in omega arith
  chain-grows x (f ∷ fs) y chain =
      let first = ap (λ (p : Plain). length p.table.seats) chain.0 in
      let step = (flown-step plan suits f chain.1).threads in
      let more = no-fewer-then f.subthread.child (length f.before.table.seats) in
      let rest = chain-grows f.after fs y chain.2 in
      omega arith

  -- the tasks of the others are those of the data that the first leaves
  tasks-kept : (f : Flown) → IsFlown plan f → (x : Plain) → f.before ≡ x → (z : Plain) (fs : List Flown) (y : Plain) → Chain plan z fs y
      → Each (λ (g : Flown). IsFree f.subthread g.subthread) fs
      → tasks_of plan x fs ≡ tasks_of plan f.after fs
  tasks-kept f flown x at z [] y chain free = refl
  tasks-kept f flown x at z (g ∷ fs) y chain free =
      let here = ap (λ (p : Plain). task_from plan.work.now p.state g.begun) (sym at) ∙ task-kept plan suits f flown g chain.1 free.0 in
      let rest = tasks-kept f flown x at g.after fs y chain.2 free.1 in
      λ i. here i ∷ rest i

  module _ (threads : ℕ) (y : Plain) (fs : List Flown) (written : Option (List ℕ)) where
    pub homing-first : (x : Plain) (course : Course) (runs : List (Option Done)) → Flight plan threads x y fs course
        → AreRunsOf plan.work.now (tasks_of plan x fs) runs → Homing plan threads y fs written written runs course
    homing-first x course runs flight are =
        record { now = x; done = []; left = fs; split = refl; flight = flight; runs_are = are; wrote = Appends-nil written }

    -- the run that comes next is one of the first that is out
    pub homing-next : (now : Option (List ℕ)) (run : Option Done) (runs : List (Option Done)) (course : Course)
        (homing : Homing plan threads y fs written now (run ∷ runs) course)
        → (f : Flown) × ((left : List Flown) × ((homing.left ≡ f ∷ left)
        × IsRunOf plan.work.now (task_from plan.work.now homing.now.state f.begun) run
        × AreRunsOf plan.work.now (tasks_of plan homing.now left) runs))
    homing-next now run runs course homing = go homing.left refl homing.runs_are
      where
        go : (left : List Flown) → homing.left ≡ left → AreRunsOf plan.work.now (tasks_of plan homing.now left) (run ∷ runs)
            → (f : Flown) × ((left : List Flown) × ((homing.left ≡ f ∷ left)
            × IsRunOf plan.work.now (task_from plan.work.now homing.now.state f.begun) run
            × AreRunsOf plan.work.now (tasks_of plan homing.now left) runs))
        go [] is are = absurd are
        go (f ∷ left) is are = (f, (left, (is, are.0, are.1)))

    pub homing-then : (now later : Option (List ℕ)) (done : Done) (runs : List (Option Done)) (course left : Course)
        (homing : Homing plan threads y fs written now (Some done ∷ runs) course)
        → IsLeft done course left
        → (f : Flown) (rest : List Flown) → homing.left ≡ f ∷ rest
        → task_of plan.work.now done ≡ task_from plan.work.now homing.now.state f.begun → IsRun plan.work.now done
        → AreRunsOf plan.work.now (tasks_of plan homing.now rest) runs
        → Appends now later (printed f.subthread.lines)
        → Homing plan threads y fs written later runs left
    homing-then now later done runs course left homing is_left f rest is is_task run are wrote =
        record {
          now = f.after;
          done = homing.done ++ f ∷ [];
          left = rest;
          split = homing.split ∙ (ap (λ gs. homing.done ++ gs) is ∙ sym (append_assoc homing.done (f ∷ []) rest));
          flight = flight-taken plan suits threads homing.now y f rest course flight done is_task run left is_left;
          runs_are = subst (λ tasks. AreRunsOf plan.work.now tasks runs)
              (tasks-kept f flight.chain.1 homing.now flight.chain.0 f.after rest y flight.chain.2 flight.free.0) are;
          wrote = subst (Appends written later) (sym lines-then)
              (Appends-append written now later (printed (lines_of (subthreads homing.done))) (printed f.subthread.lines) homing.wrote wrote);
        }
      where
        flight : Flight plan threads homing.now y (f ∷ rest) course
        flight = subst (λ gs. Flight plan threads homing.now y gs course) is homing.flight

        map-more : (gs : List Flown) → subthreads (gs ++ f ∷ []) ≡ subthreads gs ++ f.subthread ∷ []
        map-more [] = refl
        map-more (g ∷ gs) = ap (λ run. g.subthread ∷ run) (map-more gs)

        lines-then : printed (lines_of (subthreads (homing.done ++ f ∷ [])))
            ≡ printed (lines_of (subthreads homing.done)) ++ printed f.subthread.lines
        lines-then =
            ap (λ run. printed (lines_of run)) (map-more homing.done)
            ∙ (printed-lines (subthreads homing.done) (f.subthread ∷ [])
            ∙ ap (λ text. printed (lines_of (subthreads homing.done)) ++ text) (printed-one f.subthread))

    -- once all have come home the course is at rest, and all lines are written
    pub homing-last : (now : Option (List ℕ)) (course : Course) → Homing plan threads y fs written now [] course
        → StandsPast plan y course × Appends written now (printed (lines_of (subthreads fs)))
    homing-last now course homing = go homing.left refl homing.runs_are
      where
        go : (left : List Flown) → homing.left ≡ left → AreRunsOf plan.work.now (tasks_of plan homing.now left) []
            → StandsPast plan y course × Appends written now (printed (lines_of (subthreads fs)))
        go [] is are = (
          flight-rests plan suits threads homing.now y course (subst (λ gs. Flight plan threads homing.now y gs course) is homing.flight),
          subst (λ gs. Appends written now (printed (lines_of (subthreads gs))))
              (sym (homing.split ∙ (ap (λ gs. homing.done ++ gs) is ∙ append-nil homing.done))) homing.wrote,
        )
        go (f ∷ left) is are = absurd are

    -- what has come home is a part of all
    pub homing-part : (now : Option (List ℕ)) (runs : List (Option Done)) (course : Course) → Homing plan threads y fs written now runs course
        → AppendsPrefix written now (printed (lines_of (subthreads fs)))
    homing-part now runs course homing =
        subst (λ gs. AppendsPrefix written now (printed (lines_of (subthreads gs)))) (sym homing.split)
        (subst (AppendsPrefix written now) (sym (lines-split homing.done homing.left))
        (prefix_all written now (printed (lines_of (subthreads homing.done))) (printed (lines_of (subthreads homing.left))) homing.wrote))

    -- the first that is out, with its run
    pub record Coming (now : Option (List ℕ)) (done : Done) (runs : List (Option Done)) (course : Course) : Type 0 where
      pub homing : Homing plan threads y fs written now (Some done ∷ runs) course
      pub f : Flown
      pub rest : List Flown
      pub left_is : homing.left ≡ f ∷ rest
      pub flight : Flight plan threads homing.now y (f ∷ rest) course
      pub is_task : task_of plan.work.now done ≡ task_from plan.work.now homing.now.state f.begun
      pub run : IsRun plan.work.now done
      pub others : AreRunsOf plan.work.now (tasks_of plan homing.now rest) runs

    pub coming : (now : Option (List ℕ)) (run : Option Done) (all runs : List (Option Done)) (done : Done) (course : Course)
        → all ≡ run ∷ runs → run ≡ Some done → Homing plan threads y fs written now all course → Coming now done runs course
    coming now run all runs done course all_are is homing =
        let here = subst (λ rs. Homing plan threads y fs written now rs course) (all_are ∙ ap (λ r. r ∷ runs) is) homing in
        let next = homing-next now (Some done) runs course here in
        record {
          homing = here;
          f = next.0;
          rest = next.1.0;
          left_is = next.1.1.0;
          flight = subst (λ gs. Flight plan threads here.now y gs course) next.1.1.0 here.flight;
          is_task = next.1.1.1.0;
          run = next.1.1.1.1;
          others = next.1.1.2;
        }

    module _ (now : Option (List ℕ)) (done : Done) (runs : List (Option Done)) (course : Course) (c : Coming now done runs course) where
      here : task_of plan.work.now done ≡ task_from plan.work.now c.f.before.state c.f.begun
      here = c.is_task ∙ ap (λ (p : Plain). task_from plan.work.now p.state c.f.begun) (sym c.flight.chain.0)

      wide : length c.f.after.table.seats ≤ length course.store.threads
      wide = let g = chain-grows c.f.after c.rest y c.flight.chain.2 in let l = c.flight.lending.threads in omega arith

      coming-comes : MayComeHome course.store done.task.given.bundles done.old
      coming-comes = first-comes plan suits threads c.homing.now y c.f c.rest course c.flight done c.is_task c.run

      coming-seat : done.task.thread < length course.ring.table.seats
      coming-seat = first-seat plan suits threads c.homing.now y c.f c.rest course c.flight done c.is_task c.run

      coming-spot : done.task.thread < length course.spots.items
      coming-spot = first-spot plan suits threads c.homing.now y c.f c.rest course c.flight done c.is_task c.run

      coming-thread : done.effect.thread < length course.store.threads
      coming-thread = thread-there plan suits c.f c.flight.chain.1 done here c.run (length course.store.threads) wide

      coming-child : FitsChild (length course.store.threads) done.effect.thread done.effect.child
      coming-child = child-there plan suits c.f c.flight.chain.1 done here c.run (length course.store.threads) wide

      pub coming-may : MayTake done course
      coming-may =
          record { comes = coming-comes; thread = coming-thread; child = coming-child; seats = coming-seat; spots = coming-spot }

      abbrev text : List ℕ
      text = printed done.effect.prints

      text-is : printed done.effect.prints ≡ printed c.f.subthread.lines
      text-is = ap printed (lines-are plan suits c.f c.flight.chain.1 done here c.run)

      pub coming-then : (later : Option (List ℕ)) (left : Course) → IsLeft done course left → Appends now later (printed done.effect.prints)
          → Homing plan threads y fs written later runs left
      coming-then later left is_left wrote =
          homing-then now later done runs course left c.homing is_left c.f c.rest c.left_is c.is_task c.run c.others
          (subst (Appends now later) text-is wrote)

      pub coming-stops : (later : Option (List ℕ)) → AppendsPrefix now later (printed done.effect.prints)
          → AppendsPrefix written later (printed (lines_of (subthreads fs)))
      coming-stops later part =
          subst (λ gs. AppendsPrefix written later (printed (lines_of (subthreads gs))))
          (sym (c.homing.split ∙ ap (λ gs. c.homing.done ++ gs) c.left_is))
          (subst (AppendsPrefix written later) (sym (lines-split c.homing.done (c.f ∷ c.rest)))
          (prefix_second written now later (printed (lines_of (subthreads c.homing.done))) (printed (lines_of (subthreads (c.f ∷ c.rest))))
          c.homing.wrote
          (subst (AppendsPrefix now later) (sym (first-lines c.rest))
          (prefix_first now later (printed c.f.subthread.lines) (printed (lines_of (subthreads c.rest)))
          (subst (AppendsPrefix now later) text-is part)))))
        where
          first-lines : (gs : List Flown)
              → printed (lines_of (subthreads (c.f ∷ gs))) ≡ printed c.f.subthread.lines ++ printed (lines_of (subthreads gs))
          first-lines gs =
              printed-lines (c.f.subthread ∷ []) (subthreads gs)
              ∙ ap (λ text. text ++ printed (lines_of (subthreads gs))) (printed-one c.f.subthread)
