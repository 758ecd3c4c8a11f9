use Rattle.std.proofs.Common.{◌∙◌}
use Rattle.std.proofs.lemmas.Bool.{both_ways}
use Rattle.whole_run.specs.Notes.{KeepsAllNotes}
use Rattle.whole_run.proofs.Scouting.{scout-leaves}
use Rattle.whole_run.proofs.Noting.{keeps-notes-left, keeps-all-then}
use Rattle.whole_run.proofs.Turns.{leaves-then}
use Rattle.whole_run.proofs.rounds.scout_all.Goals as goal
use Rattle.whole_run.proofs.rounds.scout_all.Goals.{After-post_all, After-take_one}

-- the notes after the posts of a turn
noted₁ : (g : _) (c : After-post_all g)
    → KeepsAllNotes (g.E.Calls.view c.args.engine.now) (g.E.Calls.view c.post_all.new.engine) (g.N.Notes.tells c.args.notes.now)
    (g.N.Notes.tells c.scouting.notes)
noted₁ g c =
    let view = g.E.Calls.view in
    let tells = g.N.Notes.tells in
    keeps-all-then (view c.args.engine.now) (view c.scouting.engine) (view c.post_all.new.engine) (tells c.args.notes.now)
    (tells c.scouting.notes) (tells c.scouting.notes) c.scouting.invariant.leaves.onward.batch c.scouting.invariant.notes
    (keeps-notes-left (view c.scouting.engine) (view c.post_all.new.engine) (tells c.scouting.notes) c.post_all.ensures.left)

-- after its result
noted₂ : (g : _) (c : After-take_one g)
    → KeepsAllNotes (g.E.Calls.view c.args.engine.now) (g.E.Calls.view c.post_all.new.engine) (g.N.Notes.tells c.args.notes.now)
    (g.N.Notes.tells c.scouting.notes)
    → KeepsAllNotes (g.E.Calls.view c.args.engine.now) (g.E.Calls.view c.take_one.new.engine) (g.N.Notes.tells c.args.notes.now)
    (g.N.Notes.tells c.take_one.new.notes)
noted₂ g c first =
    let view = g.E.Calls.view in
    let tells = g.N.Notes.tells in
    keeps-all-then (view c.args.engine.now) (view c.post_all.new.engine) (view c.take_one.new.engine) (tells c.args.notes.now)
    (tells c.scouting.notes) (tells c.take_one.new.notes)
    (c.post_all.ensures.leaves.onward.batch ∙ c.scouting.invariant.leaves.onward.batch)
    first c.take_one.ensures.notes

pub returns-clause-scouted : goal.returns-clause-scouted
returns-clause-scouted g c = c.scouted.ensures.0 c.scouting-test.false

pub returns-in_err-post_all-clause-leaves : goal.returns-in_err-post_all-clause-leaves
returns-in_err-post_all-clause-leaves g c = leaves-then c.scouting.invariant.leaves c.post_all.ensures.leaves

pub returns-in_err-take_one-clause-leaves : goal.returns-in_err-take_one-clause-leaves
returns-in_err-take_one-clause-leaves g c =
    leaves-then (leaves-then c.scouting.invariant.leaves c.post_all.ensures.leaves) c.take_one.ensures.leaves

pub scouting-smaller : goal.scouting-smaller
scouting-smaller g c =
    let view = g.E.Calls.view in
    scout-leaves (view c.scouting.engine) (view c.post_all.new.engine) (view c.take_one.new.engine) c.in_ok-take_one.field-0
    (λ scouted. both_ways c.scouted.result c.scouting-test.true (c.scouted.ensures.1 scouted))
    c.post_all.ensures.leaves.onward c.in_ok-post_all.ensures.none c.in_ok-take_one.ensures.took

pub scouting-preserved : goal.scouting-preserved
scouting-preserved g c =
    record {
      leaves = leaves-then (leaves-then c.scouting.invariant.leaves c.post_all.ensures.leaves) c.take_one.ensures.leaves;
      crew = c.in_ok-take_one.ensures.crew;
      retired = c.take_one.ensures.retired ∙ (c.post_all.ensures.retired ∙ c.scouting.invariant.retired);
      struck = c.take_one.ensures.struck ∙ (c.post_all.ensures.struck ∙ c.scouting.invariant.struck);
      notes = let there = goal.at.scouting-preserved g c in noted₂ g there.After-take_one (noted₁ g there.After-post_all);
    }

pub returns-in_err-post_all-clause-notes : goal.returns-in_err-post_all-clause-notes
returns-in_err-post_all-clause-notes g c = noted₁ g (goal.at.returns-in_err-post_all-clause-notes g c).After-post_all

pub returns-in_err-take_one-clause-notes : goal.returns-in_err-take_one-clause-notes
returns-in_err-take_one-clause-notes g c =
    let there = goal.at.returns-in_err-take_one-clause-notes g c in noted₂ g there.After-take_one (noted₁ g there.After-post_all)
