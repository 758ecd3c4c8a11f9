use Rattle.std.proofs.Common.{◌≡◌, ℕ, List, ap, ◌∙◌, subst}
use Rattle.task_ast.specs.Plain.{Plain}
use Rattle.token_order.specs.View.{Roomy}
use Rattle.gp_resume.specs.inner.Flights.{Flown, Joins}
use Rattle.gp_resume.specs.inner.Waves.{GivesBeside, Sent}
use Rattle.gp_resume.proofs.Fillings.{empty-more, empty-one}
use Rattle.gp_resume.proofs.Sendings.{sent-more, sent-some, sent-fresh, sent-falls}
use Rattle.gp_resume.proofs.waves.send_beside.Goals as goal
use Rattle.gp_resume.proofs.waves.send_beside.Goals.{In-Some}

-- what joins those that were sent
joined : (g : _) (c : In-Some g) (x : Plain) (before : List (ℕ × ℕ))
    (sent : Sent c.args.plan.now c.args.threads x before (g.C.Crew.posted c.args.crew.now) (g.C.Crew.out c.args.crew.now) c.args.course.now)
    → (h : Flown) × (h.begun ≡ c.in-Some.begun) × (h.before ≡ (c.sending.invariant.sent x before sent).later)
    × Joins c.args.plan.now c.args.threads x (c.sending.invariant.sent x before sent).flights h c.next_beside.new.self
joined g c x before sent =
    let now = c.sending.invariant.sent x before sent in
    subst (λ next. GivesBeside c.args.plan.now c.args.threads x now.later now.flights next c.next_beside.new.self) c.in-Some.is
    (c.in_ok-begun.ensures.gives x now.later now.flights now.flight)

pub returns-in_err-push-clause-some : goal.returns-in_err-push-clause-some
returns-in_err-push-clause-some g c x before sent =
    sent-some c.args.plan.now c.args.threads x before (g.C.Crew.posted c.args.crew.now) (g.C.Crew.out c.args.crew.now) c.args.course.now sent

pub sending-init : goal.sending-init
sending-init g c =
    record {
      sent = λ x before sent. sent;
      places = empty-one (g.C.Crew.out c.args.crew.now) c.new-places.result.items c.push.new.self.items c.requires.one
          c.new-places.ensures.items c.in_ok-push.ensures.items;
      closed = c.requires.closed;
      is_ready = c.requires.ready;
      work_is = c.requires.work;
    }

pub next_beside-requires-clause-flying : goal.next_beside-requires-clause-flying
next_beside-requires-clause-flying g c =
    let k = c.requires.sent in
    let now = c.sending.invariant.sent k.before k.posted_before k.sent in
    record { before = k.before; later = now.later; flights = now.flights; flight = now.flight }

pub returns-in_err-begun-clause-some : goal.returns-in_err-begun-clause-some
returns-in_err-begun-clause-some g c x before sent =
    sent-some c.args.plan.now c.args.threads x before (g.C.Crew.posted c.sending.crew) (g.C.Crew.out c.sending.crew) c.sending.course
    (c.sending.invariant.sent x before sent)

pub send-requires-clause-joins : goal.send-requires-clause-joins
send-requires-clause-joins g c lifetimes within =
    let at = (goal.at.send-requires-clause-joins g c).In-Some in
    let k = c.requires.sent in
    let j = joined g at k.before k.posted_before k.sent in
    record {
      threads = c.args.threads;
      before = k.before;
      flights = (c.sending.invariant.sent k.before k.posted_before k.sent).flights;
      flown = j.0;
      is = j.1;
      joins = j.3;
    }

pub send-requires-clause-fresh : goal.send-requires-clause-fresh
send-requires-clause-fresh g c lifetimes within =
    let at = (goal.at.send-requires-clause-fresh g c).In-Some in
    let k = c.requires.sent in
    let j = joined g at k.before k.posted_before k.sent in
    sent-fresh c.args.plan.now c.args.threads k.before k.posted_before (g.C.Crew.posted c.sending.crew)
    (g.C.Crew.out c.sending.crew) c.sending.course (c.sending.invariant.sent k.before k.posted_before k.sent)
    j.0 c.in-Some.begun j.1 j.2 j.3.flown.pos k.fresh

pub returns-in_err-send-clause-some : goal.returns-in_err-send-clause-some
returns-in_err-send-clause-some g c x before sent =
    let some = sent-some c.args.plan.now c.args.threads x before (g.C.Crew.posted c.sending.crew) (g.C.Crew.out c.sending.crew)
    c.sending.course (c.sending.invariant.sent x before sent) in
    (some.0, some.1, c.in_err-send.ensures.posted_kept ∙ some.2)

pub sending-smaller : goal.sending-smaller
sending-smaller g c =
    let at = (goal.at.sending-smaller g c).In-Some in
    let k = c.requires.sent in
    let now = c.sending.invariant.sent k.before k.posted_before k.sent in
    let j = joined g at k.before k.posted_before k.sent in
    sent-falls c.args.plan.now c.args.threads k.before k.posted_before (g.C.Crew.posted c.sending.crew)
    (g.C.Crew.out c.sending.crew) c.sending.course now j.0 j.2 j.3.flown c.send.new.course
    (c.in_ok-send.ensures.flight c.args.threads k.before now.flights j.0 j.1 j.3).issued

pub sending-preserved : goal.sending-preserved
sending-preserved g c =
    let at = (goal.at.sending-preserved g c).In-Some in
    record {
      sent = λ x before sent.
          let now = c.sending.invariant.sent x before sent in
          let j = joined g at x before sent in
          sent-more c.args.plan.now c.args.threads x before (g.C.Crew.posted c.sending.crew)
          (g.C.Crew.out c.sending.crew) c.sending.course now j.0 c.in-Some.begun j.1 j.2 (g.C.Crew.posted c.send.new.crew)
          (g.C.Crew.out c.send.new.crew) c.send.new.course j.3.flown.pos
          (c.in_ok-send.ensures.flight c.args.threads x now.flights j.0 j.1 j.3)
          (c.in_ok-send.ensures.out c.args.threads x now.flights j.0 j.1 j.3) c.in_ok-send.ensures.posted;
      places =
          let k = c.requires.sent in
          let now = c.sending.invariant.sent k.before k.posted_before k.sent in
          let j = joined g at k.before k.posted_before k.sent in
          empty-more (g.C.Crew.out c.sending.crew) (g.C.Crew.out c.send.new.crew) c.sending.places.items c.push-in-Some.new.self.items _
          (c.in_ok-send.ensures.out c.args.threads k.before now.flights j.0 j.1 j.3) c.in_ok-push-2.ensures.items
          c.sending.invariant.places;
      closed = ap (λ (r : Roomy). r.cleared) c.send.ensures.ring ∙ c.in_ok-begun.ensures.closed;
      is_ready = c.send.ensures.ready;
      work_is = c.send.ensures.work ∙ c.sending.invariant.work_is;
    }

pub returns-in_err-push-2-clause-some : goal.returns-in_err-push-2-clause-some
returns-in_err-push-2-clause-some g c x before sent =
    let at = (goal.at.returns-in_err-push-2-clause-some g c).In-Some in
    let now = c.sending.invariant.sent x before sent in
    let j = joined g at x before sent in
    sent-some c.args.plan.now c.args.threads x before (g.C.Crew.posted c.send.new.crew)
    (g.C.Crew.out c.send.new.crew) c.send.new.course
    (sent-more c.args.plan.now c.args.threads x before (g.C.Crew.posted c.sending.crew)
    (g.C.Crew.out c.sending.crew) c.sending.course now j.0 c.in-Some.begun j.1 j.2 (g.C.Crew.posted c.send.new.crew)
    (g.C.Crew.out c.send.new.crew) c.send.new.course j.3.flown.pos
    (c.in_ok-send.ensures.flight c.args.threads x now.flights j.0 j.1 j.3)
    (c.in_ok-send.ensures.out c.args.threads x now.flights j.0 j.1 j.3) c.in_ok-send.ensures.posted)

pub returns-clause-sent : goal.returns-clause-sent
returns-clause-sent g c x before sent =
    let now = c.sending.invariant.sent x before sent in
    record {
      later = now.later;
      flights = now.flights;
      some = now.some;
      flight = subst (λ next. GivesBeside c.args.plan.now c.args.threads x now.later now.flights next c.next_beside.new.self) c.in_default.is
          (c.in_ok-begun.ensures.gives x now.later now.flights now.flight);
      out_are = now.out_are;
      posts = now.posts;
    }

pub returns-clause-some : goal.returns-clause-some
returns-clause-some g c x before sent =
    sent-some c.args.plan.now c.args.threads x before (g.C.Crew.posted c.sending.crew) (g.C.Crew.out c.sending.crew) c.sending.course
    (c.sending.invariant.sent x before sent)
