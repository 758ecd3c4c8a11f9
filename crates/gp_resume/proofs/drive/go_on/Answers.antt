use Rattle.std.proofs.Common.{◌≡◌, sym, ap, ◌∙◌, subst, arith, []}
use Rattle.std.proofs.lemmas.Result.{err_from_is_err_and}
use Rattle.task_ast.specs.Plain.{Plain}
use Rattle.gp_resume.specs.declared.course.Begun.{Begun}
use Rattle.gp_resume.specs.inner.Course.{Stands, Ended, Gives}
use Rattle.gp_resume.specs.inner.Flights.{Flown, Joins}
use Rattle.gp_resume.specs.inner.Waves.{GivesFirst, IsClosed}
use Rattle.gp_resume.proofs.Besides.{past-threads}
use Rattle.gp_resume.proofs.Onward.{went-first, went-part, went-some, unposted, went-then, stops-part, stops-some, left-falls, went-ends, ends-written, ends-posted}
use Rattle.gp_resume.proofs.Stops.{memory-cause, memory-told}
use Rattle.gp_resume.proofs.drive.go_on.Goals as goal
use Rattle.gp_resume.proofs.drive.go_on.Goals.{In-Goes, In-Ends}

-- the first of a wave begins, wherever the run stood at first
first : (g : _) (c : In-Goes g) (x : Plain) (stands : Stands c.args.plan.now x c.args.course.now)
    → (f : Flown) × (f.begun ≡ c.in-Goes.begun)
    × Joins c.args.plan.now c.len-threads.result (c.going.invariant.went x stands).now [] f c.next.new.self
first g c x stands =
    let went = c.going.invariant.went x stands in
    let gives = subst (λ step. GivesFirst c.args.plan.now went.now step c.next.new.self) c.in-Goes.is
    (c.in_ok-end.ensures.first went.now went.stands) in (
      gives.0,
      gives.1,
      subst (λ n. Joins c.args.plan.now n went.now [] gives.0 c.next.new.self)
          (sym (c.len-threads.ensures ∙ (c.going.course.spots.ok.0 ∙ past-threads c.args.plan.now went.now c.going.course went.stands))) gives.2,
    )

-- or it has ended
ended : (g : _) (c : In-Ends g) (x : Plain) (stands : Stands c.args.plan.now x c.args.course.now)
    → Ended c.args.plan.now (c.going.invariant.went x stands).now c.in-Ends.end c.next.new.self
ended g c x stands =
    let went = c.going.invariant.went x stands in
    subst (λ step. Gives c.args.plan.now went.now step c.next.new.self) c.in-Ends.is (c.in_ok-end.ensures.gives went.now went.stands)

pub going-init : goal.going-init
going-init g c =
    record {
      went = λ x stands. went-first c.args.plan.now x (g.O.Sink.written c.args.out.now) (g.C.Crew.posted c.args.crew.now) c.args.course.now
          stands c.requires.unposted.none_posted;
      is_ready = c.requires.unposted.ready;
      work_is = c.requires.unposted.work;
      none_out = c.requires.unposted.none_out;
      later = omega arith;
    }

pub next-requires-clause-stands : goal.next-requires-clause-stands
next-requires-clause-stands g c =
    let went = c.going.invariant.went c.requires.stands.0 c.requires.stands.1 in (went.now, went.stands)

pub returns-in_err-end-clause-partly : goal.returns-in_err-end-clause-partly
returns-in_err-end-clause-partly g c x stands =
    went-part c.args.plan.now x (g.O.Sink.written c.args.out.now) (g.O.Sink.written c.going.out) (g.C.Crew.posted c.going.crew)
    c.going.course (c.going.invariant.went x stands)

pub returns-in_err-end-clause-some : goal.returns-in_err-end-clause-some
returns-in_err-end-clause-some g c x stands =
    went-some c.args.plan.now x (g.O.Sink.written c.args.out.now) (g.O.Sink.written c.going.out) (g.C.Crew.posted c.going.crew)
    c.going.course (c.going.invariant.went x stands)

pub returns-in-Ends-clause-end : goal.returns-in-Ends-clause-end
returns-in-Ends-clause-end g c x stands =
    let at = (goal.at.returns-in-Ends-clause-end g c).In-Ends in
    went-ends c.args.plan.now x (g.O.Sink.written c.args.out.now) (g.O.Sink.written c.going.out) (g.C.Crew.posted c.going.crew)
    c.going.course (c.going.invariant.went x stands) c.in-Ends.end c.next.new.self (ended g at x stands)

pub returns-in-Ends-clause-lines : goal.returns-in-Ends-clause-lines
returns-in-Ends-clause-lines g c x stands =
    let at = (goal.at.returns-in-Ends-clause-lines g c).In-Ends in
    ends-written c.args.plan.now x (g.O.Sink.written c.args.out.now) (g.O.Sink.written c.going.out) (g.C.Crew.posted c.going.crew)
    c.going.course (c.going.invariant.went x stands) c.in-Ends.end c.next.new.self (ended g at x stands)

pub returns-in-Ends-clause-partly : goal.returns-in-Ends-clause-partly
returns-in-Ends-clause-partly g c x stands =
    went-part c.args.plan.now x (g.O.Sink.written c.args.out.now) (g.O.Sink.written c.going.out) (g.C.Crew.posted c.going.crew)
    c.going.course (c.going.invariant.went x stands)

pub returns-in-Ends-clause-posts : goal.returns-in-Ends-clause-posts
returns-in-Ends-clause-posts g c x stands =
    let at = (goal.at.returns-in-Ends-clause-posts g c).In-Ends in
    ends-posted c.args.plan.now x (g.O.Sink.written c.args.out.now) (g.O.Sink.written c.going.out) (g.C.Crew.posted c.going.crew)
    c.going.course (c.going.invariant.went x stands) c.in-Ends.end c.next.new.self (ended g at x stands)

pub returns-in-Ends-clause-some : goal.returns-in-Ends-clause-some
returns-in-Ends-clause-some g c x stands =
    went-some c.args.plan.now x (g.O.Sink.written c.args.out.now) (g.O.Sink.written c.going.out) (g.C.Crew.posted c.going.crew)
    c.going.course (c.going.invariant.went x stands)

pub go_wave-requires-clause-begins : goal.go_wave-requires-clause-begins
go_wave-requires-clause-begins g c lifetimes within =
    let at = (goal.at.go_wave-requires-clause-begins g c).In-Goes in
    let k = c.requires.stands in
    let next = first g at k.0 k.1 in
    record { before = (c.going.invariant.went k.0 k.1).now; flown = next.0; is = next.1; joins = next.2 }

pub go_wave-requires-clause-closed : goal.go_wave-requires-clause-closed
go_wave-requires-clause-closed g c lifetimes within =
    subst (λ step. IsClosed step c.next.new.self) c.in-Goes.is c.in_ok-end.ensures.closed

pub go_wave-requires-clause-fresh : goal.go_wave-requires-clause-fresh
go_wave-requires-clause-fresh g c lifetimes within =
    let at = (goal.at.go_wave-requires-clause-fresh g c).In-Goes in
    let k = c.requires.stands in
    let next = first g at k.0 k.1 in
    unposted c.args.plan.now k.0 (g.O.Sink.written c.args.out.now) (g.O.Sink.written c.going.out) (g.C.Crew.posted c.going.crew)
    c.going.course (c.going.invariant.went k.0 k.1) c.in-Goes.begun.pos
    (ap (λ (b : Begun). b.pos) (sym next.1) ∙ (next.2.flown.pos ∙ ap (λ (p : Plain). p.table.issued) (sym next.2.chain)))

pub going-smaller : goal.going-smaller
going-smaller g c =
    let at = (goal.at.going-smaller g c).In-Goes in
    let k = c.requires.stands in
    let next = first g at k.0 k.1 in
    let went = c.going.invariant.went k.0 k.1 in
    left-falls c.args.plan.now k.0 (g.O.Sink.written c.args.out.now) (g.O.Sink.written c.going.out) (g.C.Crew.posted c.going.crew)
    c.going.course went (g.O.Sink.written c.go_wave.new.out) (g.C.Crew.posted c.go_wave.new.crew) c.go_wave.new.course
    (c.in_ok-go_wave-in-Goes.ensures.went went.now next.0 next.1 next.2)

pub going-preserved : goal.going-preserved
going-preserved g c =
    let at = (goal.at.going-preserved g c).In-Goes in
    record {
      went = λ x stands.
          let next = first g at x stands in
          let went = c.going.invariant.went x stands in
          went-then c.args.plan.now x (g.O.Sink.written c.args.out.now) (g.O.Sink.written c.going.out) (g.C.Crew.posted c.going.crew)
          c.going.course went (g.O.Sink.written c.go_wave.new.out) (g.C.Crew.posted c.go_wave.new.crew) c.go_wave.new.course
          (c.in_ok-go_wave-in-Goes.ensures.went went.now next.0 next.1 next.2);
      is_ready = c.go_wave.ensures.ready;
      work_is = rw c.go_wave.ensures.work c.going.invariant.work_is;
      none_out = c.in_ok-go_wave-in-Goes.ensures.none_left;
      later = let first = c.going.invariant.later in let then = c.go_wave.ensures.cause.later in omega arith;
    }

pub returns-in_err-go_wave-in-Goes-clause-partly : goal.returns-in_err-go_wave-in-Goes-clause-partly
returns-in_err-go_wave-in-Goes-clause-partly g c x stands =
    let at = (goal.at.returns-in_err-go_wave-in-Goes-clause-partly g c).In-Goes in
    let next = first g at x stands in
    let went = c.going.invariant.went x stands in
    stops-part c.args.plan.now x (g.O.Sink.written c.args.out.now) (g.O.Sink.written c.going.out) (g.C.Crew.posted c.going.crew)
    c.going.course went (g.O.Sink.written c.go_wave.new.out) (c.go_wave.ensures.partly went.now next.0 next.1 next.2)

pub returns-in_err-go_wave-in-Goes-clause-some : goal.returns-in_err-go_wave-in-Goes-clause-some
returns-in_err-go_wave-in-Goes-clause-some g c x stands =
    let at = (goal.at.returns-in_err-go_wave-in-Goes-clause-some g c).In-Goes in
    let next = first g at x stands in
    let went = c.going.invariant.went x stands in
    stops-some c.args.plan.now x (g.O.Sink.written c.args.out.now) (g.O.Sink.written c.going.out) (g.C.Crew.posted c.going.crew)
    c.going.course went (g.C.Crew.posted c.go_wave.new.crew) (c.go_wave.ensures.some went.now next.0 next.1 next.2)

pub returns-in_err-end-clause-cause : goal.returns-in_err-end-clause-cause
returns-in_err-end-clause-cause g c =
    memory-cause c.from_residual.result (err_from_is_err_and c.from_residual.result c.from_residual.ensures.1) _ _ c.going.invariant.later

pub returns-in_err-end-clause-told : goal.returns-in_err-end-clause-told
returns-in_err-end-clause-told g c =
    memory-told c.from_residual.result (err_from_is_err_and c.from_residual.result c.from_residual.ensures.1)
