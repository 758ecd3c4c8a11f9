use Rattle.std.proofs.Common.{◌≡◌, ℕ, List, [], ◌∷◌, length, None, Err, refl, sym, ap, ◌∙◌, subst, arith}
use Rattle.std.proofs.lemmas.Result.{err_from_is_err_and}
use Rattle.task_ast.specs.Plain.{Plain}
use Rattle.gp_resume.specs.inner.Flights.{Flown, Flight}
use Rattle.gp_resume.specs.inner.Waves.{tasks_of, AreRunsOf, Homing}
use Rattle.gp_resume.proofs.Homings.{homing-last, homing-part, homing-next, Coming, coming, coming-may, coming-then, coming-stops}
use Rattle.gp_resume.proofs.Stops.{stops-later, stops-told}
use Rattle.gp_resume.proofs.waves.bring_home.Goals as goal
use Rattle.gp_resume.proofs.waves.bring_home.Goals.{In-Some-run}

none-left : {X : Type 0} (xs : List X) → length xs ≡ 0 → xs ≡ []
none-left [] none = refl
none-left (x ∷ xs) none = absurd (omega arith)

-- the run that comes next is that of the first that is out
next : (g : _) (c : In-Some-run g) (threads : ℕ) (x : Plain) (y : Plain) (fs : List Flown)
    → Flight c.args._plan.now threads x y fs c.args.course.now
    → AreRunsOf c.args._plan.now.work.now (tasks_of c.args._plan.now x fs) c.args.runs.items
    → Coming c.args._plan.now c.requires.suits threads y fs (g.O.Sink.written c.args.out.now) (g.O.Sink.written c.loop-run.out)
    c.in-Some-run.done c.next.new.self.rest.items c.loop-run.course
next g c threads x y fs flight are =
    coming c.args._plan.now c.requires.suits threads y fs (g.O.Sink.written c.args.out.now) (g.O.Sink.written c.loop-run.out)
    c.in-Some.run' c.loop-run.run-iterator.rest.items c.next.new.self.rest.items c.in-Some-run.done c.loop-run.course
    c.in-Some.ensures.steps.0 c.in-Some-run.is (c.loop-run.invariant.homing threads x y fs flight are)

pub bring-requires : goal.bring-requires
bring-requires g c =
    let at = (goal.at.bring-requires g c).In-Some-run in
    let k = c.requires.coming in
    coming-may c.args._plan.now c.requires.suits k.threads k.later k.flights _ _ c.in-Some-run.done _ c.loop-run.course
    (next g at k.threads k.before k.later k.flights k.flight k.runs_are)

pub returns-in_err-bring-in-Some-run-clause-partly : goal.returns-in_err-bring-in-Some-run-clause-partly
returns-in_err-bring-in-Some-run-clause-partly g c threads x y fs flight are =
    let at = (goal.at.returns-in_err-bring-in-Some-run-clause-partly g c).In-Some-run in
    coming-stops c.args._plan.now c.requires.suits threads y fs (g.O.Sink.written c.args.out.now) (g.O.Sink.written c.loop-run.out)
    c.in-Some-run.done c.next.new.self.rest.items c.loop-run.course (next g at threads x y fs flight are) (g.O.Sink.written c.bring.new.out)
    c.bring.ensures.partly

pub loop-run-preserved : goal.loop-run-preserved
loop-run-preserved g c =
    let at = (goal.at.loop-run-preserved g c).In-Some-run in
    record {
      homing = λ threads x y fs flight are.
          coming-then c.args._plan.now c.requires.suits threads y fs (g.O.Sink.written c.args.out.now) (g.O.Sink.written c.loop-run.out)
          c.in-Some-run.done c.next.new.self.rest.items c.loop-run.course (next g at threads x y fs flight are)
          (g.O.Sink.written c.bring.new.out) c.bring.new.course c.bring.ensures.left c.in_ok-bring-in-Some-run.ensures.lines;
      later = let first = c.loop-run.invariant.later in let then = c.bring.ensures.cause.later in omega arith;
    }

pub unreachable-requires : goal.unreachable-requires
unreachable-requires g c =
    let k = c.requires.coming in
    let homing = c.loop-run.invariant.homing k.threads k.before k.later k.flights k.flight k.runs_are in
    (homing-next c.args._plan.now c.requires.suits k.threads k.later k.flights (g.O.Sink.written c.args.out.now)
    (g.O.Sink.written c.loop-run.out) None c.next.new.self.rest.items c.loop-run.course
    (subst (λ rs. Homing c.args._plan.now k.threads k.later k.flights (g.O.Sink.written c.args.out.now) (g.O.Sink.written c.loop-run.out) rs
    c.loop-run.course) (c.in-Some.ensures.steps.0 ∙ ap (λ r. r ∷ c.next.new.self.rest.items) c.in-None-run.is) homing)).1.1.1

pub returns-clause-stands : goal.returns-clause-stands
returns-clause-stands g c threads x y fs flight are =
    (homing-last c.args._plan.now c.requires.suits threads y fs (g.O.Sink.written c.args.out.now) (g.O.Sink.written c.loop-run.out)
    c.loop-run.course
    (subst (λ rs. Homing c.args._plan.now threads y fs (g.O.Sink.written c.args.out.now) (g.O.Sink.written c.loop-run.out) rs
    c.loop-run.course) (none-left c.loop-run.run-iterator.rest.items (sym c.loop-run.run-iterator.rest.ok.0 ∙ c.in-None.ensures.steps.0)) (c.loop-run.invariant.homing threads x y fs flight are))).0

pub returns-clause-lines : goal.returns-clause-lines
returns-clause-lines g c threads x y fs flight are =
    (homing-last c.args._plan.now c.requires.suits threads y fs (g.O.Sink.written c.args.out.now) (g.O.Sink.written c.loop-run.out)
    c.loop-run.course
    (subst (λ rs. Homing c.args._plan.now threads y fs (g.O.Sink.written c.args.out.now) (g.O.Sink.written c.loop-run.out) rs
    c.loop-run.course) (none-left c.loop-run.run-iterator.rest.items (sym c.loop-run.run-iterator.rest.ok.0 ∙ c.in-None.ensures.steps.0)) (c.loop-run.invariant.homing threads x y fs flight are))).1

pub returns-clause-partly : goal.returns-clause-partly
returns-clause-partly g c threads x y fs flight are =
    homing-part c.args._plan.now c.requires.suits threads y fs (g.O.Sink.written c.args.out.now) (g.O.Sink.written c.loop-run.out)
    c.loop-run.run-iterator.rest.items c.loop-run.course (c.loop-run.invariant.homing threads x y fs flight are)

pub returns-in_err-bring-in-Some-run-clause-cause : goal.returns-in_err-bring-in-Some-run-clause-cause
returns-in_err-bring-in-Some-run-clause-cause g c =
    let stopped = err_from_is_err_and c.from_residual.result c.from_residual.ensures.1 in
    stops-later c.bring.result c.from_residual.result c.in_err-bring-in-Some-run.field-0.0 c.in_err-bring-in-Some-run.was
    (stopped.1 ∙ ap Err stopped.2) _ _ _ c.loop-run.invariant.later c.bring.ensures.cause

pub returns-in_err-bring-in-Some-run-clause-told : goal.returns-in_err-bring-in-Some-run-clause-told
returns-in_err-bring-in-Some-run-clause-told g c =
    let stopped = err_from_is_err_and c.from_residual.result c.from_residual.ensures.1 in
    stops-told c.bring.result c.from_residual.result c.in_err-bring-in-Some-run.field-0.0 c.in_err-bring-in-Some-run.was
    (stopped.1 ∙ ap Err stopped.2) c.bring.ensures.told
