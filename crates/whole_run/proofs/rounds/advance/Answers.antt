-- Three calls one after another: what they leave and what is noted is put together (noted₁, noted₂), and where all
-- succeed less is left (advance-falls).
use Rattle.std.proofs.Common.{◌∙◌}
use Rattle.whole_run.specs.Notes.{KeepsAllNotes}
use Rattle.whole_run.proofs.Noting.{keeps-all-then, keeps-notes-left}
use Rattle.whole_run.proofs.Progress.{advance-falls}
use Rattle.whole_run.proofs.Turns.{leaves-then}
use Rattle.whole_run.proofs.rounds.advance.Goals as goal
use Rattle.whole_run.proofs.rounds.advance.Goals.{After-post_all, After-take_one}

-- the notes after the posts
noted₁ : (g : _) (c : After-post_all g)
    → KeepsAllNotes (g.E.Calls.view c.args.engine.now) (g.E.Calls.view c.post_all.new.engine) (g.N.Notes.tells c.args.notes.now)
    (g.N.Notes.tells c.issue_all.new.notes)
noted₁ g c =
    let view = g.E.Calls.view in
    let tells = g.N.Notes.tells in
    keeps-all-then (view c.args.engine.now) (view c.issue_all.new.engine) (view c.post_all.new.engine) (tells c.args.notes.now)
    (tells c.issue_all.new.notes) (tells c.issue_all.new.notes) c.issue_all.ensures.leaves.onward.batch c.issue_all.ensures.notes
    (keeps-notes-left (view c.issue_all.new.engine) (view c.post_all.new.engine) (tells c.issue_all.new.notes) c.post_all.ensures.left)

-- after the run of a task
noted₂ : (g : _) (c : After-take_one g)
    → KeepsAllNotes (g.E.Calls.view c.args.engine.now) (g.E.Calls.view c.post_all.new.engine) (g.N.Notes.tells c.args.notes.now)
    (g.N.Notes.tells c.issue_all.new.notes)
    → KeepsAllNotes (g.E.Calls.view c.args.engine.now) (g.E.Calls.view c.take_one.new.engine) (g.N.Notes.tells c.args.notes.now)
    (g.N.Notes.tells c.take_one.new.notes)
noted₂ g c first =
    let view = g.E.Calls.view in
    let tells = g.N.Notes.tells in
    keeps-all-then (view c.args.engine.now) (view c.post_all.new.engine) (view c.take_one.new.engine) (tells c.args.notes.now)
    (tells c.issue_all.new.notes) (tells c.take_one.new.notes)
    (c.post_all.ensures.leaves.onward.batch ∙ c.issue_all.ensures.leaves.onward.batch) first c.take_one.ensures.notes

pub returns-in_err-post_all-clause-leaves : goal.returns-in_err-post_all-clause-leaves
returns-in_err-post_all-clause-leaves g c = leaves-then c.issue_all.ensures.leaves c.post_all.ensures.leaves

pub returns-in_err-post_all-clause-notes : goal.returns-in_err-post_all-clause-notes
returns-in_err-post_all-clause-notes g c = noted₁ g (goal.at.returns-in_err-post_all-clause-notes g c).After-post_all

pub returns-in_err-post_all-clause-retired : goal.returns-in_err-post_all-clause-retired
returns-in_err-post_all-clause-retired g c = c.post_all.ensures.retired ∙ c.issue_all.ensures.retired

pub returns-in_err-take_one-clause-leaves : goal.returns-in_err-take_one-clause-leaves
returns-in_err-take_one-clause-leaves g c =
    leaves-then (leaves-then c.issue_all.ensures.leaves c.post_all.ensures.leaves) c.take_one.ensures.leaves

pub returns-in_err-take_one-clause-notes : goal.returns-in_err-take_one-clause-notes
returns-in_err-take_one-clause-notes g c =
    let there = goal.at.returns-in_err-take_one-clause-notes g c in noted₂ g there.After-take_one (noted₁ g there.After-post_all)

pub returns-in_err-take_one-clause-retired : goal.returns-in_err-take_one-clause-retired
returns-in_err-take_one-clause-retired g c =
    c.take_one.ensures.retired ∙ (c.post_all.ensures.retired ∙ c.issue_all.ensures.retired)

pub returns : goal.returns
returns g c =
    let view = g.E.Calls.view in
    let there = goal.at.returns g c in
    record {
      leaves = leaves-then (leaves-then c.issue_all.ensures.leaves c.post_all.ensures.leaves) c.take_one.ensures.leaves;
      notes = noted₂ g there.After-take_one (noted₁ g there.After-post_all);
      crew = c.in_ok-take_one.ensures.crew;
      retired = c.take_one.ensures.retired ∙ (c.post_all.ensures.retired ∙ c.issue_all.ensures.retired);
      falls =
          advance-falls (view c.args.engine.now) (view c.issue_all.new.engine) (view c.post_all.new.engine) (view c.take_one.new.engine)
          c.in_ok-take_one.field-0 c.requires.agrees.stands c.requires.quiet c.requires.unfinished
          c.issue_all.ensures.leaves.onward c.in_ok-issue_all.ensures.issued c.post_all.ensures.leaves.onward
          c.in_ok-post_all.ensures.none c.in_ok-take_one.ensures.took;
    }
