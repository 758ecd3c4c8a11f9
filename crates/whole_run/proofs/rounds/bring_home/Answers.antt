use Rattle.std.proofs.Common.{◌∙◌}
use Rattle.std.proofs.lemmas.Bool.{both_ways}
use Rattle.whole_run.specs.Notes.{KeepsAllNotes}
use Rattle.whole_run.proofs.Noting.{keeps-all-then}
use Rattle.whole_run.proofs.Turns.{leaves-then, back-leaves}
use Rattle.whole_run.proofs.rounds.bring_home.Goals as goal
use Rattle.whole_run.proofs.rounds.bring_home.Goals.{After-take_one}

-- the notes after the result of a turn
noted : (g : _) (c : After-take_one g)
    → KeepsAllNotes (g.E.Calls.view c.args.engine.now) (g.E.Calls.view c.take_one.new.engine) (g.N.Notes.tells c.args.notes.now)
    (g.N.Notes.tells c.take_one.new.notes)
noted g c =
    let view = g.E.Calls.view in
    let tells = g.N.Notes.tells in
    keeps-all-then (view c.args.engine.now) (view c.homing.engine) (view c.take_one.new.engine) (tells c.args.notes.now)
    (tells c.homing.notes) (tells c.take_one.new.notes) c.homing.invariant.leaves.onward.batch c.homing.invariant.notes
    c.take_one.ensures.notes

pub homing-smaller : goal.homing-smaller
homing-smaller g c =
    back-leaves (g.E.Calls.view c.homing.engine) (g.E.Calls.view c.take_one.new.engine) c.in_ok-take_one.field-0
    (λ home. both_ways c.all_home.result c.homing-test.true (c.all_home.ensures.1 home)) c.in_ok-take_one.ensures.took

pub homing-preserved : goal.homing-preserved
homing-preserved g c =
    record {
      leaves = leaves-then c.homing.invariant.leaves c.take_one.ensures.leaves;
      crew = c.in_ok-take_one.ensures.crew;
      retired = c.take_one.ensures.retired ∙ c.homing.invariant.retired;
      struck = c.take_one.ensures.struck ∙ c.homing.invariant.struck;
      scouted = λ scouted. c.take_one.ensures.scouted (c.homing.invariant.scouted scouted);
      notes = noted g (goal.at.homing-preserved g c).After-take_one;
    }

pub returns-in_err-take_one-clause-leaves : goal.returns-in_err-take_one-clause-leaves
returns-in_err-take_one-clause-leaves g c = leaves-then c.homing.invariant.leaves c.take_one.ensures.leaves

pub returns-clause-home : goal.returns-clause-home
returns-clause-home g c = c.all_home.ensures.0 c.homing-test.false

pub returns-in_err-take_one-clause-scouted : goal.returns-in_err-take_one-clause-scouted
returns-in_err-take_one-clause-scouted g c = λ scouted. c.take_one.ensures.scouted (c.homing.invariant.scouted scouted)

pub returns-in_err-take_one-clause-notes : goal.returns-in_err-take_one-clause-notes
returns-in_err-take_one-clause-notes g c = noted g (goal.at.returns-in_err-take_one-clause-notes g c).After-take_one
