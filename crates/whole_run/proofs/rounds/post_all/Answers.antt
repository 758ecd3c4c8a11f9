use Rattle.std.proofs.Common.{◌<◌, All, Contains, ◌∙◌, refl, sym, ap, arith, subst}
use Rattle.std.proofs.lemmas.List.Elements.{All-contains_itself}
use Rattle.gp_base.specs.declared.journal.Event.TheVariants as event
use Rattle.dependence.specs.Standing.{present}
use Rattle.whole_run.specs.View.{now, Stands}
use Rattle.whole_run.specs.Gives.{struck_now}
use Rattle.whole_run.specs.Takes.{CrewStands}
use Rattle.whole_run.specs.inner.Rounds.{left}
use Rattle.whole_run.proofs.Events.{did-leaves, did-onward, now-did}
use Rattle.whole_run.specs.Notes.{KeepsLeftBy}
use Rattle.whole_run.proofs.Crews.{crew-posted}
use Rattle.whole_run.proofs.Noting.{keeps-left-same, keeps-left-then, did-keeps-left}
use Rattle.whole_run.proofs.Turns.{leaves-still, leaves-on, leaves-same, none-yet, one-past, none-at_all, retired-same, struck-kept}
use Rattle.whole_run.proofs.rounds.post_all.Goals as goal
use Rattle.whole_run.proofs.rounds.post_all.Goals.{After-runnable}

-- what was applied is so while the next is looked for
seen : (g : _) (c : After-runnable g) → KeepsLeftBy (g.E.Calls.view c.args.engine.now) (g.E.Calls.view c.runnable.new.self)
seen g c =
    let view = g.E.Calls.view in
    keeps-left-then (view c.args.engine.now) (view c.posting.engine) (view c.runnable.new.self) c.posting.invariant.left
    (keeps-left-same (view c.posting.engine) (view c.runnable.new.self) c.runnable.ensures.same)

pub posting-init : goal.posting-init
posting-init g c =
    record {
      leaves = leaves-still c.requires.agrees;
      crew = c.requires.agrees.crew;
      retired = refl;
      struck = refl;
      left = keeps-left-same (g.E.Calls.view c.args.engine.now) (g.E.Calls.view c.args.engine.now) refl;
      none = λ q l. absurd (omega arith);
    }

pub post-requires-clause-may : goal.post-requires-clause-may
post-requires-clause-may g c = rw c.runnable.ensures.same c.in-Some.ensures.found.may

pub post-requires-clause-work : goal.post-requires-clause-work
post-requires-clause-work g c = c.posting.invariant.leaves.work_is ∙ sym (ap (λ v. v.batch.work) c.runnable.ensures.same)

pub post-requires-clause-posted : goal.post-requires-clause-posted
post-requires-clause-posted g c =
    let are = c.posting.invariant.crew.posted_are ∙ sym (ap (λ v. (now v).posted) c.runnable.ensures.same) in
    subst (λ posts. All (Contains posts) (g.C.Crew.posted c.posting.crew)) are (All-contains_itself (g.C.Crew.posted c.posting.crew))

pub returns-in_err-post-clause-leaves : goal.returns-in_err-post-clause-leaves
returns-in_err-post-clause-leaves g c =
    leaves-same (leaves-same (rw (c.post.ensures.work, c.in_err-post.ensures.posted_kept) (record {
      onward = c.posting.invariant.leaves.onward;
      is_ready = c.post.ensures.ready;
      work_is = c.posting.invariant.leaves.work_is;
      posted_are = c.posting.invariant.leaves.posted_are;
    })) c.runnable.ensures.same) c.in_err-post.ensures.err

pub returns-in_err-post-clause-retired : goal.returns-in_err-post-clause-retired
returns-in_err-post-clause-retired g c =
    let view = g.E.Calls.view in
    retired-same (view c.runnable.new.self) (view c.post.new.self) c.in_err-post.ensures.err
    ∙ (retired-same (view c.posting.engine) (view c.runnable.new.self) c.runnable.ensures.same ∙ c.posting.invariant.retired)

pub returns-in_err-post-clause-struck : goal.returns-in_err-post-clause-struck
returns-in_err-post-clause-struck g c =
    ap struck_now c.in_err-post.ensures.err ∙ (ap struck_now c.runnable.ensures.same ∙ c.posting.invariant.struck)

pub posting-smaller : goal.posting-smaller
posting-smaller g c =
    let view = g.E.Calls.view in
    let less =
    did-leaves (view c.runnable.new.self) (view c.post.new.self)
    (event.Post c.in-Some.position (present (now (view c.runnable.new.self)) c.in-Some.position))
    (rw c.runnable.ensures.same c.posting.invariant.leaves.onward.stands) c.in_ok-post.ensures.did in
    subst (λ v. left (view c.post.new.self) < left v) c.runnable.ensures.same less

pub posting-preserved : goal.posting-preserved
posting-preserved g c =
    let view = g.E.Calls.view in
    let held = c.posting.invariant in
    let made = c.in_ok-post.ensures in
    let before = view c.runnable.new.self in
    let p = c.in-Some.position in
    let e = event.Post p (present (now before) p) in
    let stood : Stands before = rw c.runnable.ensures.same held.leaves.onward.stands in
    let crew : CrewStands (view c.post.new.self) (g.C.Crew.posted c.post.new.crew) (g.C.Crew.out c.post.new.crew) =
    rw (made.posted, made.out.1)
    (crew-posted before (view c.post.new.self) p (present (now before) p) (g.C.Crew.posted c.posting.crew) (g.C.Crew.out c.posting.crew)
    made.out.0 stood made.did made.out.2 made.out.3
    (rw c.runnable.ensures.same held.crew)) in
    record {
      leaves =
          leaves-on {later = g.C.Crew.ready c.post.new.crew} (leaves-same held.leaves c.runnable.ensures.same)
          (did-onward before (view c.post.new.self) e stood made.did) c.post.ensures.ready c.post.ensures.work crew.posted_are;
      crew = crew;
      retired = ap (λ at. at.retired) (now-did before (view c.post.new.self) e made.did)
          ∙ (retired-same (view c.posting.engine) before c.runnable.ensures.same ∙ held.retired);
      struck = struck-kept before (view c.post.new.self) e made.did refl refl ∙ (ap struck_now c.runnable.ensures.same ∙ held.struck);
      none =
          none-yet before (view c.post.new.self) c.posting.from p _ (rw c.runnable.ensures.same held.none)
          (rw c.runnable.ensures.same c.in-Some.ensures.found) made.did
          (one-past c.position.inside.0 p c.saturating_add.result c.position.view_is c.saturating_add.ensures);
      left =
          keeps-left-then (view c.args.engine.now) before (view c.post.new.self)
          (seen g (goal.at.posting-preserved g c).After-runnable)
          (did-keeps-left before (view c.post.new.self) e stood made.did tt);
    }

pub returns-clause-leaves : goal.returns-clause-leaves
returns-clause-leaves g c = leaves-same c.posting.invariant.leaves c.runnable.ensures.same

pub returns-clause-crew : goal.returns-clause-crew
returns-clause-crew g c = rw c.runnable.ensures.same c.posting.invariant.crew

pub returns-clause-retired : goal.returns-clause-retired
returns-clause-retired g c =
    retired-same (g.E.Calls.view c.posting.engine) (g.E.Calls.view c.runnable.new.self) c.runnable.ensures.same
    ∙ c.posting.invariant.retired

pub returns-clause-struck : goal.returns-clause-struck
returns-clause-struck g c = ap struck_now c.runnable.ensures.same ∙ c.posting.invariant.struck

pub returns-clause-none : goal.returns-clause-none
returns-clause-none g c =
    rw c.runnable.ensures.same
    (none-at_all (g.E.Calls.view c.posting.engine) c.posting.from c.posting.invariant.none c.in_default.ensures.none)

pub returns-in_err-post-clause-left : goal.returns-in_err-post-clause-left
returns-in_err-post-clause-left g c =
    let view = g.E.Calls.view in
    keeps-left-then (view c.args.engine.now) (view c.runnable.new.self) (view c.post.new.self)
    (seen g (goal.at.returns-in_err-post-clause-left g c).After-runnable)
    (keeps-left-same (view c.runnable.new.self) (view c.post.new.self) c.in_err-post.ensures.err)

pub returns-clause-left : goal.returns-clause-left
returns-clause-left g c = seen g (goal.at.returns-clause-left g c).After-runnable
