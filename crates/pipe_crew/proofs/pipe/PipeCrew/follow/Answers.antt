use Rattle.std.proofs.Common.{◌≡◌, ◌+◌, ◌++◌, is_ok, refl, ap, ◌∙◌}
use Rattle.std.specs.List.{flat_map}
use Rattle.std.proofs.lemmas.Result.{on_ok_weaker, on_err_weaker}
use Rattle.crew.specs.State.{CrewState}
use Rattle.crew.proofs.Noted.{handed_on_beside}
use Rattle.pipe_crew.specs.inner.Flights.{IsFlight, left_in}
use Rattle.pipe_crew.proofs.Flying.{all_put, out_put}
use Rattle.pipe_crew.proofs.pipe.PipeCrew.follow.Goals as goal

pub returns-clause-fly : goal.returns-clause-fly
returns-clause-fly g c =
    let w = c.args.self.now.inbox.work in
    let most = c.args.self.now.threads + 1 in
    let launched = c.in_ok-flight.ensures in
    rw (c.noted.ensures.others, launched.posts.0, launched.threads)
    (all_put (IsFlight w most) (is_ok c.push_back-put.result) c.args.self.now.behind.items c.push_back-put.new.self.items c.in_ok-flight.flight
    (rw (← launched.boards.1) c.push_back-put.ensures.items) c.requires.fly launched.flight)

pub returns-clause-out : goal.returns-clause-out
returns-clause-out g c =
    let launched = c.in_ok-flight.ensures in
    let then = c.launch.new.self.inbox in
    let before = c.args.self.now.behind.items in
    let after = c.push_back-put.new.self.items in
    handed_on_beside (λ (inbox : CrewState) _. flat_map left_in after ++ inbox.out ≡ flat_map left_in before ++ c.args.self.now.inbox.out)
    then c.noted.new.self c.push_back-put.result c.noted.result c.noted.ensures.value c.noted.ensures.ok
    (out_put c.push_back-put.result before after c.in_ok-flight.flight c.args.self.now.inbox.out then.out
    (rw (← launched.boards.1) c.push_back-put.ensures.items) launched.out)

pub returns-clause-posts : goal.returns-clause-posts
returns-clause-posts g c =
    let noted = c.noted.ensures.others in
    let launched = c.in_ok-flight.ensures.posts in
    (ap (λ s. s.work) noted ∙ launched.0, ap (λ s. s.posted) noted ∙ launched.1)

pub returns-clause-open : goal.returns-clause-open
returns-clause-open g c =
    on_ok_weaker c.noted.result (λ kept. ap (λ s. s.failed) kept ∙ c.in_ok-flight.ensures.open) c.noted.ensures.ok

pub returns-clause-fails : goal.returns-clause-fails
returns-clause-fails g c = on_err_weaker c.noted.result (λ is. ap (λ s. s.failed) is) c.noted.ensures.err

pub returns-then-helpers-eq0-clause-fly : goal.returns-then-helpers-eq0-clause-fly
returns-then-helpers-eq0-clause-fly g c = c.requires.fly

pub returns-then-helpers-eq0-clause-posts : goal.returns-then-helpers-eq0-clause-posts
returns-then-helpers-eq0-clause-posts g c = (refl, refl)

pub returns-in_err-flight-clause-fly : goal.returns-in_err-flight-clause-fly
returns-in_err-flight-clause-fly g c =
    let failed = c.in_err-flight.ensures in
    rw (failed.boards.1, failed.posts.0, failed.threads) c.requires.fly

pub returns-in_err-flight-clause-posts : goal.returns-in_err-flight-clause-posts
returns-in_err-flight-clause-posts g c = c.in_err-flight.ensures.posts

pub returns-clause-first : goal.returns-clause-first
returns-clause-first g c = c.in_ok-flight.ensures.boards.0

pub returns-clause-threads : goal.returns-clause-threads
returns-clause-threads g c = c.in_ok-flight.ensures.threads
