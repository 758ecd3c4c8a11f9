-- Room is made, the crew is asked, and what it hands out is accepted. After each of these the run and the crew agree,
-- and what was posted and taken is known (reserved, answered, takes, taken); each way out answers its clauses by the
-- last that was reached.
use Rattle.std.proofs.Common.{◌<◌, ◌∙◌, refl, sym, ap, subst}
use Rattle.gp_base.specs.declared.journal.Event.TheVariants as event
use Rattle.subthread.specs.Tasks.{task_of, IsRun}
use Rattle.crew.specs.Out.{TakesOut}
use Rattle.whole_run.specs.Gives.{struck_now}
use Rattle.whole_run.specs.Takes.{CrewStands}
use Rattle.whole_run.specs.Notes.{KeepsAllNotes}
use Rattle.whole_run.specs.inner.Rounds.{left, Agrees, Leaves}
use Rattle.whole_run.proofs.Events.{did-leaves, did-onward, now-did}
use Rattle.whole_run.proofs.Crews.{crew-taken, taken-stands, none-out}
use Rattle.whole_run.proofs.Noting.{keeps-left-same, keeps-notes-left, keeps-notes-nothing, keeps-all-then, notes-taken}
use Rattle.whole_run.proofs.Turns.{leaves-still, leaves-same, leaves-on, retired-same, struck-kept}
use Rattle.whole_run.proofs.Scouting.{scouted-same, scouted-taken}
use Rattle.whole_run.proofs.rounds.take_one.Goals as goal
use Rattle.whole_run.proofs.rounds.take_one.Goals.{After-reserve, After-next, In-Some, In_ok-accept-in-Some}

-- before the crew is asked
reserved : (g : _) (c : After-reserve g)
    → Agrees (g.E.Calls.view c.reserve.new.self) (g.C.Crew.ready c.args.crew.now) (g.C.Crew.work c.args.crew.now)
    (g.C.Crew.posted c.args.crew.now) (g.C.Crew.out c.args.crew.now)
reserved g c = rw c.reserve.ensures.same c.requires.agrees

-- after it has answered
answered : (g : _) (c : After-next g)
    → Leaves (g.E.Calls.view c.args.engine.now) (g.E.Calls.view c.reserve.new.self) (g.C.Crew.ready c.next.new.self)
    (g.C.Crew.work c.next.new.self) (g.C.Crew.posted c.next.new.self)
answered g c =
    leaves-same (rw (c.next.ensures.work, c.next.ensures.posted) (record {
      onward = (leaves-still c.requires.agrees).onward;
      is_ready = c.next.ensures.ready;
      work_is = c.requires.agrees.work_is;
      posted_are = c.requires.agrees.crew.posted_are;
    })) c.reserve.ensures.same

-- what it took out
takes : (g : _) (c : In-Some g)
    → TakesOut (g.C.Crew.out c.args.crew.now) (task_of (g.E.Calls.view c.reserve.new.self).batch.work c.in-Some.done)
    (g.C.Crew.out c.next.new.self)
takes g c =
    subst (λ work. TakesOut (g.C.Crew.out c.args.crew.now) (task_of work c.in-Some.done) (g.C.Crew.out c.next.new.self))
    (c.requires.agrees.work_is ∙ sym (ap (λ v. v.batch.work) c.reserve.ensures.same)) (rw c.in-Some.is at c.in_ok-next.ensures.taken)

-- after the run was accepted
taken : (g : _) (c : In_ok-accept-in-Some g)
    → Agrees (g.E.Calls.view c.reserve.new.self) (g.C.Crew.ready c.args.crew.now) (g.C.Crew.work c.args.crew.now)
    (g.C.Crew.posted c.args.crew.now) (g.C.Crew.out c.args.crew.now)
    → TakesOut (g.C.Crew.out c.args.crew.now) (task_of (g.E.Calls.view c.reserve.new.self).batch.work c.in-Some.done)
    (g.C.Crew.out c.next.new.self)
    → CrewStands (g.E.Calls.view c.accept.new.self) (g.C.Crew.posted c.args.crew.now) (g.C.Crew.out c.next.new.self)
taken g c agrees takes =
    crew-taken (g.E.Calls.view c.reserve.new.self) (g.E.Calls.view c.accept.new.self) (g.C.Crew.posted c.args.crew.now)
    (g.C.Crew.out c.args.crew.now) (g.C.Crew.out c.next.new.self)
    (task_of (g.E.Calls.view c.reserve.new.self).batch.work c.in-Some.done) c.in_ok-accept-in-Some.field-0 agrees.stands
    c.in_ok-accept-in-Some.ensures.did takes agrees.crew

pub returns-in_err-reserve-clause-leaves : goal.returns-in_err-reserve-clause-leaves
returns-in_err-reserve-clause-leaves g c = leaves-same (leaves-still c.requires.agrees) c.reserve.ensures.same

pub returns-in_err-reserve-clause-retired : goal.returns-in_err-reserve-clause-retired
returns-in_err-reserve-clause-retired g c =
    retired-same (g.E.Calls.view c.args.engine.now) (g.E.Calls.view c.reserve.new.self) c.reserve.ensures.same

pub returns-in_err-reserve-clause-struck : goal.returns-in_err-reserve-clause-struck
returns-in_err-reserve-clause-struck g c = ap struck_now c.reserve.ensures.same

pub returns-in_err-reserve-clause-scouted : goal.returns-in_err-reserve-clause-scouted
returns-in_err-reserve-clause-scouted g c =
    scouted-same (g.E.Calls.view c.args.engine.now) (g.E.Calls.view c.reserve.new.self) c.reserve.ensures.same

pub returns-in_err-next-clause-leaves : goal.returns-in_err-next-clause-leaves
returns-in_err-next-clause-leaves g c = answered g (goal.at.returns-in_err-next-clause-leaves g c).After-next

pub returns-in_err-next-clause-retired : goal.returns-in_err-next-clause-retired
returns-in_err-next-clause-retired g c =
    retired-same (g.E.Calls.view c.args.engine.now) (g.E.Calls.view c.reserve.new.self) c.reserve.ensures.same

pub returns-in_err-next-clause-struck : goal.returns-in_err-next-clause-struck
returns-in_err-next-clause-struck g c = ap struck_now c.reserve.ensures.same

pub returns-in_err-next-clause-scouted : goal.returns-in_err-next-clause-scouted
returns-in_err-next-clause-scouted g c =
    scouted-same (g.E.Calls.view c.args.engine.now) (g.E.Calls.view c.reserve.new.self) c.reserve.ensures.same

pub returns-in-None-clause-leaves : goal.returns-in-None-clause-leaves
returns-in-None-clause-leaves g c = answered g (goal.at.returns-in-None-clause-leaves g c).After-next

pub returns-in-None-clause-crew : goal.returns-in-None-clause-crew
returns-in-None-clause-crew g c =
    let idle = rw c.in-None.is at c.in_ok-next.ensures.idle in
    rw (c.in_ok-next.ensures.posted, rw c.in-None.is at c.in_ok-next.ensures.empty)
    (subst (CrewStands (g.E.Calls.view c.reserve.new.self) (g.C.Crew.posted c.args.crew.now)) (idle.0 refl)
    (rw c.reserve.ensures.same c.requires.agrees.crew))

pub returns-in-None-clause-retired : goal.returns-in-None-clause-retired
returns-in-None-clause-retired g c =
    retired-same (g.E.Calls.view c.args.engine.now) (g.E.Calls.view c.reserve.new.self) c.reserve.ensures.same

pub returns-in-None-clause-struck : goal.returns-in-None-clause-struck
returns-in-None-clause-struck g c = ap struck_now c.reserve.ensures.same

pub returns-in-None-clause-scouted : goal.returns-in-None-clause-scouted
returns-in-None-clause-scouted g c =
    scouted-same (g.E.Calls.view c.args.engine.now) (g.E.Calls.view c.reserve.new.self) c.reserve.ensures.same

pub returns-in-None-clause-took : goal.returns-in-None-clause-took
returns-in-None-clause-took g c =
    let idle = rw c.in-None.is at c.in_ok-next.ensures.idle in (
      c.reserve.ensures.same,
      none-out (g.E.Calls.view c.args.engine.now) (g.C.Crew.posted c.args.crew.now) (g.C.Crew.out c.args.crew.now) (idle.0 refl)
          c.requires.agrees.crew,
    )

pub accept-requires-clause-task : goal.accept-requires-clause-task
accept-requires-clause-task g c =
    taken-stands (g.E.Calls.view c.reserve.new.self) (g.C.Crew.posted c.args.crew.now) (g.C.Crew.out c.args.crew.now)
    (g.C.Crew.out c.next.new.self)
    (task_of (g.E.Calls.view c.reserve.new.self).batch.work c.in-Some.done)
    (takes g (goal.at.accept-requires-clause-task g c).In-Some) (reserved g (goal.at.accept-requires-clause-task g c).After-reserve).crew

-- it is a run of the work
ran : (g : _) (c : In-Some g) → IsRun (g.E.Calls.view c.reserve.new.self).batch.work c.in-Some.done
ran g c =
    let run : IsRun (g.C.Crew.work c.args.crew.now) c.in-Some.done = rw c.in-Some.is at c.in_ok-next.ensures.run in
    subst (λ w. IsRun w c.in-Some.done) (c.requires.agrees.work_is ∙ sym (ap (λ v. v.batch.work) c.reserve.ensures.same)) run

pub accept-requires-clause-run : goal.accept-requires-clause-run
accept-requires-clause-run g c = ran g (goal.at.accept-requires-clause-run g c).In-Some

pub returns-in_ok-accept-in-Some-clause-leaves : goal.returns-in_ok-accept-in-Some-clause-leaves
returns-in_ok-accept-in-Some-clause-leaves g c =
    let there = goal.at.returns-in_ok-accept-in-Some-clause-leaves g c in
    leaves-on {later = g.C.Crew.ready c.next.new.self} (leaves-same (leaves-still c.requires.agrees) c.reserve.ensures.same)
    (did-onward (g.E.Calls.view c.reserve.new.self) (g.E.Calls.view c.accept.new.self)
    (event.Take c.in-Some.done.task.pos c.in-Some.done.task.attempt c.in_ok-accept-in-Some.field-0)
    (reserved g there.After-reserve).stands c.in_ok-accept-in-Some.ensures.did)
    c.next.ensures.ready c.next.ensures.work
    (c.next.ensures.posted ∙ (taken g there.In_ok-accept-in-Some (reserved g there.After-reserve) (takes g there.In-Some)).posted_are)

pub returns-in_ok-accept-in-Some-clause-crew : goal.returns-in_ok-accept-in-Some-clause-crew
returns-in_ok-accept-in-Some-clause-crew g c =
    let there = goal.at.returns-in_ok-accept-in-Some-clause-crew g c in
    rw c.next.ensures.posted (taken g there.In_ok-accept-in-Some (reserved g there.After-reserve) (takes g there.In-Some))

pub returns-in_ok-accept-in-Some-clause-retired : goal.returns-in_ok-accept-in-Some-clause-retired
returns-in_ok-accept-in-Some-clause-retired g c =
    let view = g.E.Calls.view in
    ap (λ at. at.retired)
    (now-did (view c.reserve.new.self) (view c.accept.new.self)
    (event.Take c.in-Some.done.task.pos c.in-Some.done.task.attempt c.in_ok-accept-in-Some.field-0) c.in_ok-accept-in-Some.ensures.did)
    ∙ retired-same (view c.args.engine.now) (view c.reserve.new.self) c.reserve.ensures.same

pub returns-in_ok-accept-in-Some-clause-struck : goal.returns-in_ok-accept-in-Some-clause-struck
returns-in_ok-accept-in-Some-clause-struck g c =
    struck-kept (g.E.Calls.view c.reserve.new.self) (g.E.Calls.view c.accept.new.self)
    (event.Take c.in-Some.done.task.pos c.in-Some.done.task.attempt c.in_ok-accept-in-Some.field-0)
    c.in_ok-accept-in-Some.ensures.did refl refl
    ∙ ap struck_now c.reserve.ensures.same

pub returns-in_ok-accept-in-Some-clause-scouted : goal.returns-in_ok-accept-in-Some-clause-scouted
returns-in_ok-accept-in-Some-clause-scouted g c scouted =
    let view = g.E.Calls.view in
    scouted-taken (view c.reserve.new.self) (view c.accept.new.self) c.in-Some.done.task.pos c.in-Some.done.task.attempt
    c.in_ok-accept-in-Some.field-0
    c.in_ok-accept-in-Some.ensures.did
    (scouted-same (view c.args.engine.now) (view c.reserve.new.self) c.reserve.ensures.same scouted)

pub returns-in_ok-accept-in-Some-clause-took : goal.returns-in_ok-accept-in-Some-clause-took
returns-in_ok-accept-in-Some-clause-took g c =
    let view = g.E.Calls.view in
    subst (λ v. left (view c.accept.new.self) < left v) c.reserve.ensures.same
    (did-leaves (view c.reserve.new.self) (view c.accept.new.self)
    (event.Take c.in-Some.done.task.pos c.in-Some.done.task.attempt c.in_ok-accept-in-Some.field-0)
    (reserved g (goal.at.returns-in_ok-accept-in-Some-clause-took g c).After-reserve).stands c.in_ok-accept-in-Some.ensures.did)

-- nothing was noted while room was made
quiet : (g : _) (c : After-reserve g)
    → KeepsAllNotes (g.E.Calls.view c.args.engine.now) (g.E.Calls.view c.reserve.new.self) (g.N.Notes.tells c.args.notes.now)
    (g.N.Notes.tells c.args.notes.now)
quiet g c =
    let view = g.E.Calls.view in
    keeps-notes-left (view c.args.engine.now) (view c.reserve.new.self) (g.N.Notes.tells c.args.notes.now)
    (keeps-left-same (view c.args.engine.now) (view c.reserve.new.self) c.reserve.ensures.same)

pub returns-in_err-reserve-clause-notes : goal.returns-in_err-reserve-clause-notes
returns-in_err-reserve-clause-notes g c = quiet g (goal.at.returns-in_err-reserve-clause-notes g c).After-reserve

pub returns-in_err-next-clause-notes : goal.returns-in_err-next-clause-notes
returns-in_err-next-clause-notes g c = quiet g (goal.at.returns-in_err-next-clause-notes g c).After-reserve

pub returns-in-None-clause-notes : goal.returns-in-None-clause-notes
returns-in-None-clause-notes g c = quiet g (goal.at.returns-in-None-clause-notes g c).After-reserve

pub returns-in_err-accept-in-Some-clause-leaves : goal.returns-in_err-accept-in-Some-clause-leaves
returns-in_err-accept-in-Some-clause-leaves g c =
    leaves-same (answered g (goal.at.returns-in_err-accept-in-Some-clause-leaves g c).After-next) c.in_err-accept-in-Some.ensures.err

pub returns-in_err-accept-in-Some-clause-notes : goal.returns-in_err-accept-in-Some-clause-notes
returns-in_err-accept-in-Some-clause-notes g c =
    let view = g.E.Calls.view in
    keeps-notes-nothing (view c.args.engine.now) (view c.accept.new.self) (g.N.Notes.tells c.args.notes.now)
    (g.N.Notes.tells c.accept.new.notes)
    (c.in_err-accept-in-Some.ensures.err ∙ c.reserve.ensures.same) c.in_err-accept-in-Some.ensures.unnoted

pub returns-in_err-accept-in-Some-clause-retired : goal.returns-in_err-accept-in-Some-clause-retired
returns-in_err-accept-in-Some-clause-retired g c =
    retired-same (g.E.Calls.view c.args.engine.now) (g.E.Calls.view c.accept.new.self)
    (c.in_err-accept-in-Some.ensures.err ∙ c.reserve.ensures.same)

pub returns-in_err-accept-in-Some-clause-struck : goal.returns-in_err-accept-in-Some-clause-struck
returns-in_err-accept-in-Some-clause-struck g c = ap struck_now (c.in_err-accept-in-Some.ensures.err ∙ c.reserve.ensures.same)

pub returns-in_err-accept-in-Some-clause-scouted : goal.returns-in_err-accept-in-Some-clause-scouted
returns-in_err-accept-in-Some-clause-scouted g c =
    scouted-same (g.E.Calls.view c.args.engine.now) (g.E.Calls.view c.accept.new.self)
    (c.in_err-accept-in-Some.ensures.err ∙ c.reserve.ensures.same)

pub returns-in_ok-accept-in-Some-clause-notes : goal.returns-in_ok-accept-in-Some-clause-notes
returns-in_ok-accept-in-Some-clause-notes g c =
    let there = goal.at.returns-in_ok-accept-in-Some-clause-notes g c in
    let view = g.E.Calls.view in
    let tells = g.N.Notes.tells in
    keeps-all-then (view c.args.engine.now) (view c.reserve.new.self) (view c.accept.new.self) (tells c.args.notes.now)
    (tells c.args.notes.now) (tells c.accept.new.notes)
    (ap (λ v. v.batch) c.reserve.ensures.same) (quiet g there.After-reserve)
    (notes-taken (view c.reserve.new.self) (view c.accept.new.self) c.in-Some.done (reserved g there.After-reserve).stands
    (taken-stands (view c.reserve.new.self) (g.C.Crew.posted c.args.crew.now) (g.C.Crew.out c.args.crew.now) (g.C.Crew.out c.next.new.self)
    (task_of (view c.reserve.new.self).batch.work c.in-Some.done) (takes g there.In-Some) (reserved g there.After-reserve).crew)
    (ran g there.In-Some) c.in_ok-accept-in-Some.field-0 (tells c.args.notes.now)
    (tells c.accept.new.notes) c.in_ok-accept-in-Some.ensures.did
    c.in_ok-accept-in-Some.ensures.noted)
