use Rattle.std.proofs.Common.{◌<◌, ◌∙◌, is_some, sym, ap, arith}
use Rattle.whole_run.specs.Notes.{KeepsAllNotes}
use Rattle.whole_run.specs.inner.Rounds.{left, Leaves}
use Rattle.whole_run.proofs.Events.{onward-most}
use Rattle.whole_run.proofs.Noting.{keeps-left-same, detect-keeps-left, keeps-notes-left, keeps-all-then}
use Rattle.whole_run.proofs.Turns.{leaves-then, leaves-alone, leaves-same, detected, due-leaves, retired-same}
use Rattle.whole_run.proofs.rounds.detect_all.Goals as goal
use Rattle.whole_run.proofs.rounds.detect_all.Goals.{After-scout_all, After-bring_home}

-- the notes after the first loop of a turn
noted₁ : (g : _) (c : After-scout_all g)
    → KeepsAllNotes (g.E.Calls.view c.args.engine.now) (g.E.Calls.view c.scout_all.new.engine) (g.N.Notes.tells c.args.notes.now)
    (g.N.Notes.tells c.scout_all.new.notes)
noted₁ g c =
    let view = g.E.Calls.view in
    let tells = g.N.Notes.tells in
    keeps-all-then (view c.args.engine.now) (view c.detecting.engine) (view c.scout_all.new.engine) (tells c.args.notes.now)
    (tells c.detecting.notes) (tells c.scout_all.new.notes) c.detecting.invariant.leaves.onward.batch c.detecting.invariant.notes
    c.scout_all.ensures.notes

-- after both
noted₂ : (g : _) (c : After-bring_home g)
    → KeepsAllNotes (g.E.Calls.view c.args.engine.now) (g.E.Calls.view c.scout_all.new.engine) (g.N.Notes.tells c.args.notes.now)
    (g.N.Notes.tells c.scout_all.new.notes)
    → KeepsAllNotes (g.E.Calls.view c.args.engine.now) (g.E.Calls.view c.bring_home.new.engine) (g.N.Notes.tells c.args.notes.now)
    (g.N.Notes.tells c.bring_home.new.notes)
noted₂ g c first =
    let view = g.E.Calls.view in
    let tells = g.N.Notes.tells in
    keeps-all-then (view c.args.engine.now) (view c.scout_all.new.engine) (view c.bring_home.new.engine) (tells c.args.notes.now)
    (tells c.scout_all.new.notes) (tells c.bring_home.new.notes)
    (c.scout_all.ensures.leaves.onward.batch ∙ c.detecting.invariant.leaves.onward.batch) first c.bring_home.ensures.notes

-- what both loops before a restart leave
readied : (g : _) (c : After-bring_home g)
    → Leaves (g.E.Calls.view c.args.engine.now) (g.E.Calls.view c.bring_home.new.engine)
    (g.C.Crew.ready c.bring_home.new.crew) (g.C.Crew.work c.bring_home.new.crew) (g.C.Crew.posted c.bring_home.new.crew)
readied g c = leaves-then (leaves-then c.detecting.invariant.leaves c.scout_all.ensures.leaves) c.bring_home.ensures.leaves

pub returns-in_err-scout_all-clause-leaves : goal.returns-in_err-scout_all-clause-leaves
returns-in_err-scout_all-clause-leaves g c = leaves-then c.detecting.invariant.leaves c.scout_all.ensures.leaves

pub returns-in_err-bring_home-clause-leaves : goal.returns-in_err-bring_home-clause-leaves
returns-in_err-bring_home-clause-leaves g c = readied g (goal.at.returns-in_err-bring_home-clause-leaves g c).After-bring_home

pub detect-requires-clause-scouted : goal.detect-requires-clause-scouted
detect-requires-clause-scouted g c due = c.bring_home.ensures.scouted c.in_ok-scout_all.ensures.scouted

pub detecting-smaller : goal.detecting-smaller
detecting-smaller g c =
    let view = g.E.Calls.view in
    let less : left (view c.detect.new.self) < left (view c.bring_home.new.engine) =
    due-leaves (view c.bring_home.new.engine) (view c.detect.new.self) c.in_ok-detect.field-0 c.bring_home.ensures.leaves.onward.stands
    (ap is_some (c.bring_home.ensures.struck ∙ c.scout_all.ensures.struck) ∙ (sym c.due.ensures ∙ c.detecting-test.true))
    c.in_ok-detect.ensures.gives in
    let home = onward-most (view c.scout_all.new.engine) (view c.bring_home.new.engine) c.bring_home.ensures.leaves.onward in
    let scouted = onward-most (view c.detecting.engine) (view c.scout_all.new.engine) c.scout_all.ensures.leaves.onward in
    omega arith

pub detecting-preserved : goal.detecting-preserved
detecting-preserved g c =
    let view = g.E.Calls.view in
    let there = goal.at.detecting-preserved g c in
    let gives =
    detected (view c.bring_home.new.engine) (view c.detect.new.self) c.in_ok-detect.field-0 c.bring_home.ensures.leaves.onward.stands
    c.in_ok-detect.ensures.gives in
    record {
      leaves = leaves-alone (readied g there.After-bring_home) c.in_ok-bring_home.ensures.crew gives.0;
      crew = gives.0.crew (g.C.Crew.posted c.bring_home.new.crew) (g.C.Crew.out c.bring_home.new.crew) c.in_ok-bring_home.ensures.crew;
      retired = gives.1 ∙ (c.bring_home.ensures.retired ∙ (c.scout_all.ensures.retired ∙ c.detecting.invariant.retired));
      notes =
          keeps-all-then (view c.args.engine.now) (view c.bring_home.new.engine) (view c.detect.new.self) (g.N.Notes.tells c.args.notes.now)
          (g.N.Notes.tells c.bring_home.new.notes) (g.N.Notes.tells c.bring_home.new.notes)
          (readied g there.After-bring_home).onward.batch
          (noted₂ g there.After-bring_home (noted₁ g there.After-scout_all))
          (keeps-notes-left (view c.bring_home.new.engine) (view c.detect.new.self) (g.N.Notes.tells c.bring_home.new.notes)
          (detect-keeps-left (view c.bring_home.new.engine) (view c.detect.new.self) c.in_ok-detect.field-0
          c.bring_home.ensures.leaves.onward.stands c.in_ok-detect.ensures.gives));
    }

pub returns-in_err-detect-clause-leaves : goal.returns-in_err-detect-clause-leaves
returns-in_err-detect-clause-leaves g c =
    leaves-same (readied g (goal.at.returns-in_err-detect-clause-leaves g c).After-bring_home) c.in_err-detect.ensures.err

pub returns-in_err-detect-clause-retired : goal.returns-in_err-detect-clause-retired
returns-in_err-detect-clause-retired g c =
    retired-same (g.E.Calls.view c.bring_home.new.engine) (g.E.Calls.view c.detect.new.self) c.in_err-detect.ensures.err
    ∙ (c.bring_home.ensures.retired ∙ (c.scout_all.ensures.retired ∙ c.detecting.invariant.retired))

pub returns-in_err-scout_all-clause-notes : goal.returns-in_err-scout_all-clause-notes
returns-in_err-scout_all-clause-notes g c = noted₁ g (goal.at.returns-in_err-scout_all-clause-notes g c).After-scout_all

pub returns-in_err-bring_home-clause-notes : goal.returns-in_err-bring_home-clause-notes
returns-in_err-bring_home-clause-notes g c =
    let there = goal.at.returns-in_err-bring_home-clause-notes g c in noted₂ g there.After-bring_home (noted₁ g there.After-scout_all)

pub returns-in_err-detect-clause-notes : goal.returns-in_err-detect-clause-notes
returns-in_err-detect-clause-notes g c =
    let view = g.E.Calls.view in
    let tells = g.N.Notes.tells in
    let there = goal.at.returns-in_err-detect-clause-notes g c in
    keeps-all-then (view c.args.engine.now) (view c.bring_home.new.engine) (view c.detect.new.self) (tells c.args.notes.now)
    (tells c.bring_home.new.notes) (tells c.bring_home.new.notes) (readied g there.After-bring_home).onward.batch
    (noted₂ g there.After-bring_home (noted₁ g there.After-scout_all))
    (keeps-notes-left (view c.bring_home.new.engine) (view c.detect.new.self) (tells c.bring_home.new.notes)
    (keeps-left-same (view c.bring_home.new.engine) (view c.detect.new.self) c.in_err-detect.ensures.err))
