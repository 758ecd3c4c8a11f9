use Rattle.std.proofs.Common.{◌≡◌, ◌<◌, ◌≤◌, ◌∙◌, arith}
use Rattle.whole_run.specs.View.{now}
use Rattle.whole_run.specs.Takes.{CrewStands}
use Rattle.whole_run.specs.Notes.{KeepsAllNotes}
use Rattle.whole_run.specs.inner.Rounds.{left, Leaves}
use Rattle.whole_run.proofs.Events.{onward-most}
use Rattle.whole_run.proofs.Progress.{none-due}
use Rattle.whole_run.proofs.Noting.{keeps-left-same, issue-keeps-left, keeps-notes-left, keeps-all-then}
use Rattle.whole_run.proofs.Turns.{leaves-then, leaves-alone, leaves-same, issued, issued-leaves, issued-needs, issued-waits, issued-ends, retired-same}
use Rattle.whole_run.proofs.rounds.issue_all.Goals as goal
use Rattle.whole_run.proofs.rounds.issue_all.Goals.{After-detect_all, In_ok-issue}

-- the notes after the restarts of a turn
noted₁ : (g : _) (c : After-detect_all g)
    → KeepsAllNotes (g.E.Calls.view c.args.engine.now) (g.E.Calls.view c.detect_all.new.engine) (g.N.Notes.tells c.args.notes.now)
    (g.N.Notes.tells c.detect_all.new.notes)
noted₁ g c =
    let view = g.E.Calls.view in
    let tells = g.N.Notes.tells in
    keeps-all-then (view c.args.engine.now) (view c.issuing.engine) (view c.detect_all.new.engine) (tells c.args.notes.now)
    (tells c.issuing.notes) (tells c.detect_all.new.notes) c.issuing.invariant.leaves.onward.batch c.issuing.invariant.notes
    c.detect_all.ensures.notes

-- after its issue
noted₂ : (g : _) (c : In_ok-issue g)
    → KeepsAllNotes (g.E.Calls.view c.args.engine.now) (g.E.Calls.view c.detect_all.new.engine) (g.N.Notes.tells c.args.notes.now)
    (g.N.Notes.tells c.detect_all.new.notes)
    → KeepsAllNotes (g.E.Calls.view c.args.engine.now) (g.E.Calls.view c.issue.new.self) (g.N.Notes.tells c.args.notes.now)
    (g.N.Notes.tells c.detect_all.new.notes)
noted₂ g c first =
    let view = g.E.Calls.view in
    let tells = g.N.Notes.tells in
    keeps-all-then (view c.args.engine.now) (view c.detect_all.new.engine) (view c.issue.new.self) (tells c.args.notes.now)
    (tells c.detect_all.new.notes) (tells c.detect_all.new.notes)
    (c.detect_all.ensures.leaves.onward.batch ∙ c.issuing.invariant.leaves.onward.batch) first
    (keeps-notes-left (view c.detect_all.new.engine) (view c.issue.new.self) (tells c.detect_all.new.notes)
    (issue-keeps-left (view c.detect_all.new.engine) (view c.issue.new.self) c.in_ok-issue.field-0
    c.detect_all.ensures.leaves.onward.stands c.in_ok-issue.ensures.gives))

-- after the issue of a turn
then_issued : (g : _) (c : In_ok-issue g)
    → Leaves (g.E.Calls.view c.args.engine.now) (g.E.Calls.view c.issue.new.self) (g.C.Crew.ready c.detect_all.new.crew)
    (g.C.Crew.work c.detect_all.new.crew) (g.C.Crew.posted c.detect_all.new.crew)
    × CrewStands (g.E.Calls.view c.issue.new.self) (g.C.Crew.posted c.detect_all.new.crew) (g.C.Crew.out c.detect_all.new.crew)
    × ((now (g.E.Calls.view c.issue.new.self)).retired ≡ (now (g.E.Calls.view c.args.engine.now)).retired)
then_issued g c =
    let view = g.E.Calls.view in
    let gives =
    issued (view c.detect_all.new.engine) (view c.issue.new.self) c.in_ok-issue.field-0 c.detect_all.ensures.leaves.onward.stands
    c.in_ok-issue.ensures.gives in (
      leaves-alone (leaves-then c.issuing.invariant.leaves c.detect_all.ensures.leaves) c.in_ok-detect_all.ensures.crew gives.0,
      gives.0.crew (g.C.Crew.posted c.detect_all.new.crew) (g.C.Crew.out c.detect_all.new.crew) c.in_ok-detect_all.ensures.crew,
      gives.1 ∙ (c.detect_all.ensures.retired ∙ c.issuing.invariant.retired),
    )

pub returns-in_err-detect_all-clause-leaves : goal.returns-in_err-detect_all-clause-leaves
returns-in_err-detect_all-clause-leaves g c = leaves-then c.issuing.invariant.leaves c.detect_all.ensures.leaves

pub returns-in_err-detect_all-clause-retired : goal.returns-in_err-detect_all-clause-retired
returns-in_err-detect_all-clause-retired g c = c.detect_all.ensures.retired ∙ c.issuing.invariant.retired

pub issue-requires : goal.issue-requires
issue-requires g c = record { none_due = none-due (g.E.Calls.view c.detect_all.new.engine) c.in_ok-detect_all.ensures.none_struck }

pub returns-in_err-issue-clause-leaves : goal.returns-in_err-issue-clause-leaves
returns-in_err-issue-clause-leaves g c =
    leaves-same (leaves-then c.issuing.invariant.leaves c.detect_all.ensures.leaves) c.in_err-issue.ensures.err

pub returns-in_err-issue-clause-retired : goal.returns-in_err-issue-clause-retired
returns-in_err-issue-clause-retired g c =
    retired-same (g.E.Calls.view c.detect_all.new.engine) (g.E.Calls.view c.issue.new.self) c.in_err-issue.ensures.err
    ∙ (c.detect_all.ensures.retired ∙ c.issuing.invariant.retired)

pub issuing-smaller : goal.issuing-smaller
issuing-smaller g c =
    let view = g.E.Calls.view in
    let less : left (view c.issue.new.self) < left (view c.detect_all.new.engine) =
    issued-leaves (view c.detect_all.new.engine) (view c.issue.new.self) c.in-One.field-0 c.detect_all.ensures.leaves.onward.stands
    (rw c.in-One.is at c.in_ok-issue.ensures.gives) in
    let most : left (view c.detect_all.new.engine) ≤ left (view c.issuing.engine) =
    onward-most (view c.issuing.engine) (view c.detect_all.new.engine) c.detect_all.ensures.leaves.onward in
    omega arith

pub issuing-preserved : goal.issuing-preserved
issuing-preserved g c =
    let there = goal.at.issuing-preserved g c in
    let moved = then_issued g there.In_ok-issue in
    record {
      leaves = moved.0;
      crew = moved.1;
      retired = moved.2;
      notes = noted₂ g there.In_ok-issue (noted₁ g there.After-detect_all);
    }

pub returns-in-Needs : goal.returns-in-Needs
returns-in-Needs g c =
    let there = goal.at.returns-in-Needs g c in
    let moved = then_issued g there.In_ok-issue in
    record {
      leaves = moved.0;
      notes = noted₂ g there.In_ok-issue (noted₁ g there.After-detect_all);
      crew = moved.1;
      retired = moved.2;
      issued =
          issued-needs (g.E.Calls.view c.detect_all.new.engine) (g.E.Calls.view c.issue.new.self) c.in-Needs.field-0
          (rw c.in-Needs.is at c.in_ok-issue.ensures.gives);
    }

pub returns-in-Settles : goal.returns-in-Settles
returns-in-Settles g c =
    let there = goal.at.returns-in-Settles g c in
    let moved = then_issued g there.In_ok-issue in
    record {
      leaves = moved.0;
      notes = noted₂ g there.In_ok-issue (noted₁ g there.After-detect_all);
      crew = moved.1;
      retired = moved.2;
      issued =
          issued-waits (g.E.Calls.view c.detect_all.new.engine) (g.E.Calls.view c.issue.new.self) c.in-Settles.field-0
          (rw c.in-Settles.is at c.in_ok-issue.ensures.gives);
    }

pub returns-in-Ended : goal.returns-in-Ended
returns-in-Ended g c =
    let there = goal.at.returns-in-Ended g c in
    let moved = then_issued g there.In_ok-issue in
    record {
      leaves = moved.0;
      notes = noted₂ g there.In_ok-issue (noted₁ g there.After-detect_all);
      crew = moved.1;
      retired = moved.2;
      issued =
          issued-ends (g.E.Calls.view c.detect_all.new.engine) (g.E.Calls.view c.issue.new.self) c.in-Ended.field-0
          (rw c.in-Ended.is at c.in_ok-issue.ensures.gives);
    }

pub returns-in_err-detect_all-clause-notes : goal.returns-in_err-detect_all-clause-notes
returns-in_err-detect_all-clause-notes g c = noted₁ g (goal.at.returns-in_err-detect_all-clause-notes g c).After-detect_all

pub returns-in_err-issue-clause-notes : goal.returns-in_err-issue-clause-notes
returns-in_err-issue-clause-notes g c =
    let view = g.E.Calls.view in
    let tells = g.N.Notes.tells in
    keeps-all-then (view c.args.engine.now) (view c.detect_all.new.engine) (view c.issue.new.self) (tells c.args.notes.now)
    (tells c.detect_all.new.notes) (tells c.detect_all.new.notes)
    (c.detect_all.ensures.leaves.onward.batch ∙ c.issuing.invariant.leaves.onward.batch)
    (noted₁ g (goal.at.returns-in_err-issue-clause-notes g c).After-detect_all)
    (keeps-notes-left (view c.detect_all.new.engine) (view c.issue.new.self) (tells c.detect_all.new.notes)
    (keeps-left-same (view c.detect_all.new.engine) (view c.issue.new.self) c.in_err-issue.ensures.err))
