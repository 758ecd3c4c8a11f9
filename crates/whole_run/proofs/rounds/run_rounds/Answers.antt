-- A round is two calls: retirements, and what goes on after them. What was written and what was noted after each of
-- them is put together from what was before (written₁, written₂, noted₁, noted₂), and each way out answers its clauses
-- by the last that was reached. A round that goes on leaves less to do, or makes the end known.
use Rattle.std.proofs.Common.{◌∙◌, refl, arith}
use Rattle.whole_run.specs.Gives.{HasFinished}
use Rattle.whole_run.specs.inner.Rounds.{KeepsPart, KeepsWritten}
use Rattle.whole_run.specs.Notes.{KeepsNotes, StopsNotes}
use Rattle.whole_run.proofs.Noting.{keeps-notes-then, keeps-stops, stops-then}
use Rattle.whole_run.proofs.Progress.{completed, ends-so, onward-to-know}
use Rattle.whole_run.proofs.Turns.{agrees-then, leaves-still, leaves-then, on-err}
use Rattle.whole_run.proofs.Written.{wrote-same, written-whole}
use Rattle.whole_run.proofs.rounds.run_rounds.Goals as goal
use Rattle.whole_run.proofs.rounds.run_rounds.Goals.{In_ok-retire_all, In-Some, After-advance}

-- what was written after the retirements of a round
written₁ : (g : _) (c : In_ok-retire_all g)
    → KeepsWritten (g.E.Calls.view c.args.engine.now) (g.E.Calls.view c.retire_all.new.engine) (g.O.Sink.written c.args.out.now)
    (g.O.Sink.written c.retire_all.new.out)
written₁ g c start wrote = c.in_ok-retire_all.ensures.written start (c.rounds.invariant.written start wrote)

-- after the rest of it
written₂ : (g : _) (c : After-advance g)
    → KeepsWritten (g.E.Calls.view c.args.engine.now) (g.E.Calls.view c.advance.new.engine) (g.O.Sink.written c.args.out.now)
    (g.O.Sink.written c.retire_all.new.out)
written₂ g c start wrote =
    wrote-same start (g.E.Calls.view c.retire_all.new.engine) (g.E.Calls.view c.advance.new.engine)
    (g.O.Sink.written c.retire_all.new.out) (g.O.Sink.written c.retire_all.new.out)
    c.advance.ensures.leaves.onward.batch c.advance.ensures.retired refl
    (c.in_ok-retire_all.ensures.written start (c.rounds.invariant.written start wrote))

-- the notes after the retirements of a round
noted₁ : (g : _) (c : In_ok-retire_all g)
    → KeepsNotes (g.E.Calls.view c.args.engine.now) (g.E.Calls.view c.retire_all.new.engine) (g.N.Notes.tells c.args.notes.now)
    (g.N.Notes.tells c.retire_all.new.notes) (g.L.Sink.written c.args.log.now) (g.L.Sink.written c.retire_all.new.log)
noted₁ g c =
    let view = g.E.Calls.view in
    let tells = g.N.Notes.tells in
    let log = g.L.Sink.written in
    keeps-notes-then (view c.args.engine.now) (view c.rounds.engine) (view c.retire_all.new.engine) (tells c.args.notes.now)
    (tells c.rounds.notes) (tells c.retire_all.new.notes) (log c.args.log.now) (log c.rounds.log) (log c.retire_all.new.log)
    c.rounds.invariant.leaves.onward.batch c.rounds.invariant.notes c.in_ok-retire_all.ensures.notes

-- after the rest of it
noted₂ : (g : _) (c : After-advance g)
    → KeepsNotes (g.E.Calls.view c.args.engine.now) (g.E.Calls.view c.retire_all.new.engine) (g.N.Notes.tells c.args.notes.now)
    (g.N.Notes.tells c.retire_all.new.notes) (g.L.Sink.written c.args.log.now) (g.L.Sink.written c.retire_all.new.log)
    → KeepsNotes (g.E.Calls.view c.args.engine.now) (g.E.Calls.view c.advance.new.engine) (g.N.Notes.tells c.args.notes.now)
    (g.N.Notes.tells c.advance.new.notes) (g.L.Sink.written c.args.log.now) (g.L.Sink.written c.retire_all.new.log)
noted₂ g c first =
    let view = g.E.Calls.view in
    let tells = g.N.Notes.tells in
    let log = g.L.Sink.written in
    keeps-notes-then (view c.args.engine.now) (view c.retire_all.new.engine) (view c.advance.new.engine) (tells c.args.notes.now)
    (tells c.retire_all.new.notes) (tells c.advance.new.notes) (log c.args.log.now) (log c.retire_all.new.log) (log c.retire_all.new.log)
    (c.retire_all.ensures.leaves.onward.batch ∙ c.rounds.invariant.leaves.onward.batch) first
    (c.advance.ensures.notes (log c.retire_all.new.log))

pub rounds-init : goal.rounds-init
rounds-init g c =
    record {
      leaves = leaves-still c.requires.agrees;
      crew = c.requires.agrees.crew;
      written = λ start wrote. wrote;
      later = omega arith;
      later' = omega arith;
      notes = λ selective start are. are;
    }

pub returns-in_err-retire_all-clause-leaves : goal.returns-in_err-retire_all-clause-leaves
returns-in_err-retire_all-clause-leaves g c = leaves-then c.rounds.invariant.leaves c.retire_all.ensures.leaves

pub returns-in_err-retire_all-clause-partly : goal.returns-in_err-retire_all-clause-partly
returns-in_err-retire_all-clause-partly g c =
    on-err c.from_residual.result
    (KeepsPart (g.E.Calls.view c.args.engine.now) (g.E.Calls.view c.retire_all.new.engine) (g.O.Sink.written c.args.out.now)
    (g.O.Sink.written c.retire_all.new.out))
    (λ start wrote. c.in_err-retire_all.ensures.partly start (c.rounds.invariant.written start wrote))

-- where the run has finished
finished : (g : _) (c : In-Some g) → HasFinished (g.E.Calls.view c.retire_all.new.engine) c.in-Some.end
finished g c = rw c.in-Some.is at c.finished.ensures.found

pub returns-in-Some-clause-leaves : goal.returns-in-Some-clause-leaves
returns-in-Some-clause-leaves g c = leaves-then c.rounds.invariant.leaves c.retire_all.ensures.leaves

pub returns-in-Some-clause-complete : goal.returns-in-Some-clause-complete
returns-in-Some-clause-complete g c =
    completed (g.E.Calls.view c.retire_all.new.engine) c.in-Some.end c.retire_all.ensures.leaves.onward.stands
    c.in_ok-retire_all.ensures.quiet.none_struck
    (finished g (goal.at.returns-in-Some-clause-complete g c).In-Some)

pub returns-in-Some-clause-end : goal.returns-in-Some-clause-end
returns-in-Some-clause-end g c =
    ends-so (g.E.Calls.view c.retire_all.new.engine) c.in-Some.end c.retire_all.ensures.leaves.onward.stands
    (finished g (goal.at.returns-in-Some-clause-end g c).In-Some)

pub returns-in-Some-clause-crew : goal.returns-in-Some-clause-crew
returns-in-Some-clause-crew g c other = c.in_ok-retire_all.ensures.crew (λ e. absurd (cc e))

pub returns-in-Some-clause-written : goal.returns-in-Some-clause-written
returns-in-Some-clause-written g c = written₁ g (goal.at.returns-in-Some-clause-written g c).In_ok-retire_all

pub advance-requires-clause-agrees : goal.advance-requires-clause-agrees
advance-requires-clause-agrees g c lifetimes within =
    agrees-then (leaves-then c.rounds.invariant.leaves c.retire_all.ensures.leaves) (c.in_ok-retire_all.ensures.crew (λ e. absurd (cc e)))

pub returns-in_err-advance-clause-leaves : goal.returns-in_err-advance-clause-leaves
returns-in_err-advance-clause-leaves g c =
    leaves-then (leaves-then c.rounds.invariant.leaves c.retire_all.ensures.leaves) c.advance.ensures.leaves

pub returns-in_err-advance-clause-partly : goal.returns-in_err-advance-clause-partly
returns-in_err-advance-clause-partly g c =
    on-err c.from_residual-in_err-advance.result
    (KeepsPart (g.E.Calls.view c.args.engine.now) (g.E.Calls.view c.advance.new.engine) (g.O.Sink.written c.args.out.now)
    (g.O.Sink.written c.retire_all.new.out))
    (written-whole (g.E.Calls.view c.args.engine.now) (g.E.Calls.view c.advance.new.engine) (g.O.Sink.written c.args.out.now)
    (g.O.Sink.written c.retire_all.new.out)
    (written₂ g (goal.at.returns-in_err-advance-clause-partly g c).After-advance))

pub rounds-smaller : goal.rounds-smaller
rounds-smaller g c =
    let most = onward-to-know (g.E.Calls.view c.rounds.engine) (g.E.Calls.view c.retire_all.new.engine) c.retire_all.ensures.leaves.onward in
    let less = c.in_ok-advance.ensures.falls in
    omega arith

pub rounds-preserved : goal.rounds-preserved
rounds-preserved g c =
    let whole = goal.at.rounds-preserved g c in
    record {
      leaves = leaves-then (leaves-then c.rounds.invariant.leaves c.retire_all.ensures.leaves) c.advance.ensures.leaves;
      crew = c.in_ok-advance.ensures.crew;
      written = written₂ g whole.After-advance;
      later = let first = c.rounds.invariant.later in let second = c.retire_all.ensures.cause.later in omega arith;
      later' = let first = c.rounds.invariant.later' in let second = c.retire_all.ensures.cause.later' in omega arith;
      notes = noted₂ g whole.After-advance (noted₁ g whole.In_ok-retire_all);
    }

pub returns-in-Some-clause-notes : goal.returns-in-Some-clause-notes
returns-in-Some-clause-notes g c = noted₁ g (goal.at.returns-in-Some-clause-notes g c).In_ok-retire_all

pub returns-in_err-retire_all-clause-stopped : goal.returns-in_err-retire_all-clause-stopped
returns-in_err-retire_all-clause-stopped g c =
    let view = g.E.Calls.view in
    let tells = g.N.Notes.tells in
    let log = g.L.Sink.written in
    on-err c.from_residual.result
    (StopsNotes (view c.args.engine.now) (view c.retire_all.new.engine) (tells c.args.notes.now) (tells c.retire_all.new.notes)
    g.N.Notes.part (log c.args.log.now) (log c.retire_all.new.log))
    (stops-then (view c.args.engine.now) (view c.rounds.engine) (view c.retire_all.new.engine) (tells c.args.notes.now)
    (tells c.rounds.notes) (tells c.retire_all.new.notes) g.N.Notes.part (log c.args.log.now) (log c.rounds.log)
    (log c.retire_all.new.log) c.rounds.invariant.leaves.onward.batch c.rounds.invariant.notes c.in_err-retire_all.ensures.stopped)

pub returns-in_err-advance-clause-stopped : goal.returns-in_err-advance-clause-stopped
returns-in_err-advance-clause-stopped g c =
    let view = g.E.Calls.view in
    let tells = g.N.Notes.tells in
    let log = g.L.Sink.written in
    let there = goal.at.returns-in_err-advance-clause-stopped g c in
    on-err c.from_residual-in_err-advance.result
    (StopsNotes (view c.args.engine.now) (view c.advance.new.engine) (tells c.args.notes.now) (tells c.advance.new.notes)
    g.N.Notes.part (log c.args.log.now) (log c.retire_all.new.log))
    (keeps-stops (view c.args.engine.now) (view c.advance.new.engine) (tells c.args.notes.now) (tells c.advance.new.notes)
    g.N.Notes.part (log c.args.log.now) (log c.retire_all.new.log)
    (noted₂ g there.After-advance (noted₁ g there.In_ok-retire_all)))
