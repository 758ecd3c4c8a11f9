use Rattle.std.proofs.Common.{◌≡◌, ◌≤◌, [], sym, ap, ◌∙◌, subst, append-nil, arith}
use Rattle.std.proofs.lemmas.Result.{on_ok_weaker, err_from_is_err_and}
use Rattle.gp_base.proofs.Written.{prefix_none}
use Rattle.task_ast.specs.Plain.{Plain}
use Rattle.token_order.specs.View.{Roomy}
use Rattle.gp_resume.specs.declared.course.Begun.{Begun}
use Rattle.restart_log.specs.meaning.Lines.{printed}
use Rattle.gp_resume.specs.meaning.Resumed.{lines_of}
use Rattle.gp_resume.specs.inner.Going.{rest}
use Rattle.gp_resume.specs.inner.Flights.{Flown, Joins}
use Rattle.gp_resume.specs.inner.Waves.{ArePlaced, IsOne, Sent, IsSent}
use Rattle.gp_resume.proofs.Sendings.{sent-first, sent-some, sent-one}
use Rattle.gp_resume.proofs.Stops.{memory-cause, memory-told, on-ok-both}
use Rattle.gp_resume.proofs.WavesGone.{wave-placed, wave-coming, wave-partly, wave-went}
use Rattle.gp_resume.proofs.waves.go_wave.Goals as goal
use Rattle.gp_resume.proofs.waves.go_wave.Goals.{In_ok-steps}

-- the first was sent
first : (g : _) (c : In_ok-steps g) (x : Plain) (f : Flown) (is : f.begun ≡ c.args.leader.begun)
    (joins : Joins c.args.plan.now c.args.leader.threads x [] f c.args.course.now)
    → Sent c.args.plan.now c.args.leader.threads x (g.C.Crew.posted c.args.crew.now) (g.C.Crew.posted c.send.new.crew)
    (g.C.Crew.out c.send.new.crew) c.send.new.course
first g c x f is joins =
    sent-first c.args.plan.now x f c.args.leader.begun is (sym joins.chain) joins.flown.pos (g.C.Crew.posted c.args.crew.now)
    (g.C.Crew.posted c.send.new.crew) (g.C.Crew.out c.args.crew.now) (g.C.Crew.out c.send.new.crew) c.send.new.course c.args.leader.threads
    (c.in_ok-steps.ensures.flight c.args.leader.threads x [] f is joins) c.requires.none_out
    (c.in_ok-steps.ensures.out c.args.leader.threads x [] f is joins) c.in_ok-steps.ensures.posted

-- and nothing from its position on had been posted
first-alone : (g : _) (c : In_ok-steps g)
    → IsSent c.args.plan.now c.args.leader.threads (g.C.Crew.posted c.send.new.crew) (g.C.Crew.out c.send.new.crew) c.send.new.course
first-alone g c =
    let b = c.requires.begins in
    record {
      before = b.before;
      posted_before = g.C.Crew.posted c.args.crew.now;
      fresh = λ p later. c.requires.fresh p
          (subst (λ n. n ≤ p) (ap (λ (p : Plain). p.table.issued) b.joins.chain
          ∙ (sym b.joins.flown.pos ∙ ap (λ (begun : Begun). begun.pos) b.is)) later);
      sent = first g c b.before b.flown b.is b.joins;
    }

-- it is the only one that is out
one : (g : _) (c : In_ok-steps g) → IsOne (g.C.Crew.out c.send.new.crew)
one g c =
    let b = c.requires.begins in
    sent-one (g.C.Crew.out c.args.crew.now) (g.C.Crew.out c.send.new.crew) _ c.requires.none_out
    (c.in_ok-steps.ensures.out c.args.leader.threads b.before [] b.flown b.is b.joins)

pub returns-in_err-steps-clause-partly : goal.returns-in_err-steps-clause-partly
returns-in_err-steps-clause-partly g c x f is joins =
    prefix_none (g.O.Sink.written c.args.out.now) (printed (lines_of (rest c.args.plan.now x)))

pub returns-in_err-steps-clause-some : goal.returns-in_err-steps-clause-some
returns-in_err-steps-clause-some g c x f is joins =
    (0, omega arith, c.in_err-steps.ensures.posted_kept ∙ sym (append-nil (g.C.Crew.posted c.args.crew.now)))

pub go_alone-requires-clause-sent : goal.go_alone-requires-clause-sent
go_alone-requires-clause-sent g c lifetimes within =
    (c.args.leader.threads, first-alone g ((goal.at.go_alone-requires-clause-sent g c).In_ok-steps))

pub go_alone-requires-clause-one : goal.go_alone-requires-clause-one
go_alone-requires-clause-one g c lifetimes within = one g ((goal.at.go_alone-requires-clause-one g c).In_ok-steps)

pub returns-then-not-are_worth_two-clause-went : goal.returns-then-not-are_worth_two-clause-went
returns-then-not-are_worth_two-clause-went g c =
    let at = (goal.at.returns-then-not-are_worth_two-clause-went g c).In_ok-steps in
    on_ok_weaker c.go_alone.result
    (λ went x f is joins. went c.args.leader.threads x (g.C.Crew.posted c.args.crew.now) (first g at x f is joins)) c.go_alone.ensures.went

pub returns-then-not-are_worth_two-clause-partly : goal.returns-then-not-are_worth_two-clause-partly
returns-then-not-are_worth_two-clause-partly g c x f is joins =
    let at = (goal.at.returns-then-not-are_worth_two-clause-partly g c).In_ok-steps in
    c.go_alone.ensures.partly c.args.leader.threads x (g.C.Crew.posted c.args.crew.now) (first g at x f is joins)

pub returns-then-not-are_worth_two-clause-some : goal.returns-then-not-are_worth_two-clause-some
returns-then-not-are_worth_two-clause-some g c x f is joins =
    let at = (goal.at.returns-then-not-are_worth_two-clause-some g c).In_ok-steps in
    let some = sent-some c.args.plan.now c.args.leader.threads x (g.C.Crew.posted c.args.crew.now) (g.C.Crew.posted c.send.new.crew)
    (g.C.Crew.out c.send.new.crew) c.send.new.course (first g at x f is joins) in
    (some.0, some.1, c.go_alone.ensures.posted ∙ some.2)

pub send_beside-requires-clause-sent : goal.send_beside-requires-clause-sent
send_beside-requires-clause-sent g c lifetimes within = first-alone g ((goal.at.send_beside-requires-clause-sent g c).In_ok-steps)

pub send_beside-requires-clause-one : goal.send_beside-requires-clause-one
send_beside-requires-clause-one g c lifetimes within = one g ((goal.at.send_beside-requires-clause-one g c).In_ok-steps)

pub send_beside-requires-clause-closed : goal.send_beside-requires-clause-closed
send_beside-requires-clause-closed g c lifetimes within = ap (λ (r : Roomy). r.cleared) c.send.ensures.ring ∙ c.requires.closed

pub returns-in_err-places-clause-partly : goal.returns-in_err-places-clause-partly
returns-in_err-places-clause-partly g c x f is joins =
    prefix_none (g.O.Sink.written c.args.out.now) (printed (lines_of (rest c.args.plan.now x)))

pub returns-in_err-places-clause-some : goal.returns-in_err-places-clause-some
returns-in_err-places-clause-some g c x f is joins =
    let at = (goal.at.returns-in_err-places-clause-some g c).In_ok-steps in
    c.send_beside.ensures.some x (g.C.Crew.posted c.args.crew.now) (first g at x f is joins)

pub collect-requires-clause-placed : goal.collect-requires-clause-placed
collect-requires-clause-placed g c lifetimes within =
    let at = (goal.at.collect-requires-clause-placed g c).In_ok-steps in
    let b = c.requires.begins in
    subst (λ p. ArePlaced p (g.C.Crew.out c.send_beside.new.crew)) (sym c.position_begun-first.ensures)
    (wave-placed c.args.plan.now c.args.leader.threads b.before (g.C.Crew.posted c.args.crew.now) (g.C.Crew.posted c.send_beside.new.crew)
    (g.C.Crew.out c.send_beside.new.crew) c.send_beside.new.course
    (c.in_ok-places.ensures.sent b.before (g.C.Crew.posted c.args.crew.now) (first g at b.before b.flown b.is b.joins))
    b.flown c.args.leader.begun b.is (sym b.joins.chain) b.joins.flown.pos)

pub returns-in_err-runs-clause-partly : goal.returns-in_err-runs-clause-partly
returns-in_err-runs-clause-partly g c x f is joins =
    prefix_none (g.O.Sink.written c.args.out.now) (printed (lines_of (rest c.args.plan.now x)))

pub returns-in_err-runs-clause-some : goal.returns-in_err-runs-clause-some
returns-in_err-runs-clause-some g c x f is joins =
    let at = (goal.at.returns-in_err-runs-clause-some g c).In_ok-steps in
    let some = c.send_beside.ensures.some x (g.C.Crew.posted c.args.crew.now) (first g at x f is joins) in
    (some.0, some.1, c.collect.ensures.posted ∙ some.2)

pub bring_home-requires-clause-coming : goal.bring_home-requires-clause-coming
bring_home-requires-clause-coming g c =
    let at = (goal.at.bring_home-requires-clause-coming g c).In_ok-steps in
    let b = c.requires.begins in
    wave-coming c.args.plan.now c.args.leader.threads b.before (g.C.Crew.posted c.args.crew.now) (g.C.Crew.posted c.send_beside.new.crew)
    (g.C.Crew.out c.send_beside.new.crew) c.send_beside.new.course
    (c.in_ok-places.ensures.sent b.before (g.C.Crew.posted c.args.crew.now) (first g at b.before b.flown b.is b.joins))
    (g.C.Crew.work c.send_beside.new.crew) c.in_ok-runs.runs.items
    (c.send_beside.ensures.work ∙ (c.send.ensures.work ∙ c.requires.work)) c.in_ok-runs.ensures.runs

pub returns-clause-went : goal.returns-clause-went
returns-clause-went g c =
    let at = (goal.at.returns-clause-went g c).In_ok-steps in
    on-ok-both c.bring_home.result
    (λ stands lines x f is joins.
    wave-went c.args.plan.now c.args.leader.threads x (g.C.Crew.posted c.args.crew.now) (g.C.Crew.posted c.send_beside.new.crew)
    (g.C.Crew.out c.send_beside.new.crew) c.send_beside.new.course
    (c.in_ok-places.ensures.sent x (g.C.Crew.posted c.args.crew.now) (first g at x f is joins))
    (g.C.Crew.work c.send_beside.new.crew) c.in_ok-runs.runs.items
    (c.send_beside.ensures.work ∙ (c.send.ensures.work ∙ c.requires.work)) c.in_ok-runs.ensures.runs
    (g.O.Sink.written c.args.out.now) (g.O.Sink.written c.bring_home.new.out) (g.C.Crew.posted c.collect.new.crew) c.bring_home.new.course
    c.collect.ensures.posted stands lines)
    c.bring_home.ensures.stands c.bring_home.ensures.lines

pub returns-clause-none_left : goal.returns-clause-none_left
returns-clause-none_left g c = on_ok_weaker c.bring_home.result (λ stands. c.in_ok-runs.ensures.none_left) c.bring_home.ensures.stands

pub returns-clause-partly : goal.returns-clause-partly
returns-clause-partly g c x f is joins =
    let at = (goal.at.returns-clause-partly g c).In_ok-steps in
    wave-partly c.args.plan.now c.args.leader.threads x (g.C.Crew.posted c.args.crew.now) (g.C.Crew.posted c.send_beside.new.crew)
    (g.C.Crew.out c.send_beside.new.crew) c.send_beside.new.course
    (c.in_ok-places.ensures.sent x (g.C.Crew.posted c.args.crew.now) (first g at x f is joins))
    (g.C.Crew.work c.send_beside.new.crew) c.in_ok-runs.runs.items
    (c.send_beside.ensures.work ∙ (c.send.ensures.work ∙ c.requires.work)) c.in_ok-runs.ensures.runs
    (g.O.Sink.written c.args.out.now) (g.O.Sink.written c.bring_home.new.out) c.bring_home.ensures.partly

pub returns-clause-some : goal.returns-clause-some
returns-clause-some g c x f is joins =
    let at = (goal.at.returns-clause-some g c).In_ok-steps in
    let some = c.send_beside.ensures.some x (g.C.Crew.posted c.args.crew.now) (first g at x f is joins) in
    (some.0, some.1, c.collect.ensures.posted ∙ some.2)

pub returns-in_err-steps-clause-cause : goal.returns-in_err-steps-clause-cause
returns-in_err-steps-clause-cause g c =
    memory-cause c.from_residual.result
    (err_from_is_err_and c.from_residual.result c.from_residual.ensures.1) _ _ (omega arith)

pub returns-in_err-steps-clause-told : goal.returns-in_err-steps-clause-told
returns-in_err-steps-clause-told g c =
    memory-told c.from_residual.result
    (err_from_is_err_and c.from_residual.result c.from_residual.ensures.1)

pub returns-in_err-places-clause-cause : goal.returns-in_err-places-clause-cause
returns-in_err-places-clause-cause g c =
    memory-cause c.from_residual-in_err-places.result
    (err_from_is_err_and c.from_residual-in_err-places.result c.from_residual-in_err-places.ensures.1) _ _ (omega arith)

pub returns-in_err-places-clause-told : goal.returns-in_err-places-clause-told
returns-in_err-places-clause-told g c =
    memory-told c.from_residual-in_err-places.result
    (err_from_is_err_and c.from_residual-in_err-places.result c.from_residual-in_err-places.ensures.1)

pub returns-in_err-runs-clause-cause : goal.returns-in_err-runs-clause-cause
returns-in_err-runs-clause-cause g c =
    memory-cause c.from_residual-in_err-runs.result
    (err_from_is_err_and c.from_residual-in_err-runs.result c.from_residual-in_err-runs.ensures.1) _ _ (omega arith)

pub returns-in_err-runs-clause-told : goal.returns-in_err-runs-clause-told
returns-in_err-runs-clause-told g c =
    memory-told c.from_residual-in_err-runs.result
    (err_from_is_err_and c.from_residual-in_err-runs.result c.from_residual-in_err-runs.ensures.1)
