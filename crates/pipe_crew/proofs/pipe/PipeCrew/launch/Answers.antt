use Rattle.std.proofs.Common.{◌≡◌, ◌+◌, ◌++◌, All, sym, subst, ap, ◌∙◌, arith}
use Rattle.std.proofs.lemmas.Result.{IfOk-weaker, on_ok_weaker, on_err_weaker}
use Rattle.subthread.specs.Tasks.{Fits}
use Rattle.crew.specs.State.{CrewState}
use Rattle.crew.proofs.Noted.{handed_on, handed_on_beside}
use Rattle.pipe_crew.specs.inner.Flights.{IsFlight, left_in}
use Rattle.pipe_crew.proofs.Flying.{some_taken, may_have_more}
use Rattle.pipe_crew.proofs.pipe.PipeCrew.launch.Goals as goal

pub launch-flight-requires-clause-fits : goal.launch-flight-requires-clause-fits
launch-flight-requires-clause-fits g c =
    subst (λ w. All (Fits w) c.in_ok-tasks.tasks) c.args.self.now.same c.in_ok-tasks.ensures.fits

pub launch-flight-requires-clause-some : goal.launch-flight-requires-clause-some
launch-flight-requires-clause-some g c =
    some_taken c.in_ok-tasks.tasks c.args.self.now.inbox.out c.requires.some c.in_ok-tasks.ensures.some

pub returns-clause-flight : goal.returns-clause-flight
returns-clause-flight g c =
    let w = c.args.self.now.inbox.work in
    let most = c.args.self.now.threads + 1 in
    let helpers = c.requires.helpers.1 in
    handed_on (IsFlight w most) c.launch-flight.result c.noted.result c.noted.ensures.value
    (IfOk-weaker c.launch-flight.result _ (IsFlight w most)
    (λ flight is. may_have_more w (c.args.helpers + 1) most flight (omega (arith, helpers))
    (subst (λ v. IsFlight v (c.args.helpers + 1) flight) (sym c.args.self.now.same) is)) c.launch-flight.ensures.flight)

pub returns-clause-out : goal.returns-clause-out
returns-clause-out g c =
    let waiting = c.oldest.new.self in
    handed_on_beside (λ (inbox : CrewState) flight. c.args.self.now.inbox.out ≡ left_in flight ++ inbox.out) waiting c.noted.new.self
    c.launch-flight.result c.noted.result c.noted.ensures.value c.noted.ensures.ok
    (IfOk-weaker c.launch-flight.result _ _
    (λ flight left. c.in_ok-tasks.ensures.tasks ∙ ap (λ l. l ++ waiting.out) (sym left)) c.launch-flight.ensures.left)

pub returns-clause-posts : goal.returns-clause-posts
returns-clause-posts g c =
    let noted = c.noted.ensures.others in
    let taken = c.in_ok-tasks.ensures.rest in
    (ap (λ s. s.work) noted ∙ ap (λ s. s.work) taken, ap (λ s. s.posted) noted ∙ ap (λ s. s.posted) taken)

pub returns-clause-open : goal.returns-clause-open
returns-clause-open g c =
    on_ok_weaker c.noted.result (λ kept. ap (λ s. s.failed) kept ∙ ap (λ s. s.failed) c.in_ok-tasks.ensures.rest) c.noted.ensures.ok

pub returns-clause-fails : goal.returns-clause-fails
returns-clause-fails g c = on_err_weaker c.noted.result (λ is. ap (λ s. s.failed) is) c.noted.ensures.err
