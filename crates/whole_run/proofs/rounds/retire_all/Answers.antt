-- A turn of the loop makes the restarts that are due, and then lets the oldest position retire, where it may. After the
-- restarts what was written stands (kept) and the notes go on (noted), and from there the retirement goes on (goes);
-- each way out of the loop answers its clauses by these three.
use Rattle.std.proofs.Common.{◌<◌, ◌≤◌, ◌∙◌, Some, refl, sym, ap, subst, arith}
use Rattle.whole_run.specs.inner.Rounds.{left, KeepsPart, KeepsWritten}
use Rattle.whole_run.specs.Notes.{KeepsNotes, StopsNotes}
use Rattle.whole_run.specs.Gives.{RetireGives}
use Rattle.whole_run.proofs.Events.{onward-most}
use Rattle.whole_run.proofs.Noting.{keeps-notes-then, notes-told, notes-part, keeps-stops, stops-then}
use Rattle.whole_run.proofs.Turns.{GoesOn, leaves-still, leaves-then, leaves-alone, leaves-same, retired, retired-leaves, retired-oldest, retired-quiet, retired-same, on-err}
use Rattle.whole_run.proofs.Written.{wrote-same, wrote-more, wrote-part, wrote-whole}
use Rattle.whole_run.proofs.rounds.retire_all.Goals as goal
use Rattle.whole_run.proofs.rounds.retire_all.Goals.{After-detect_all, In_ok-position}

-- after the restarts of a turn
kept : (g : _) (c : After-detect_all g)
    → KeepsWritten (g.E.Calls.view c.args.engine.now) (g.E.Calls.view c.detect_all.new.engine) (g.O.Sink.written c.args.out.now)
    (g.O.Sink.written c.retiring.out)
kept g c start wrote =
    wrote-same start (g.E.Calls.view c.retiring.engine) (g.E.Calls.view c.detect_all.new.engine) (g.O.Sink.written c.retiring.out)
    (g.O.Sink.written c.retiring.out)
    c.detect_all.ensures.leaves.onward.batch c.detect_all.ensures.retired refl (c.retiring.invariant.written start wrote)

-- its retirement
goes : (g : _) (c : In_ok-position g) → GoesOn (g.E.Calls.view c.detect_all.new.engine) (g.E.Calls.view c.retire.new.self)
goes g c =
    retired (g.E.Calls.view c.detect_all.new.engine) (g.E.Calls.view c.retire.new.self) c.in_ok-position.field-0
    c.detect_all.ensures.leaves.onward.stands c.in_ok-position.ensures.gives

-- the notes after the restarts of a turn
noted : (g : _) (c : After-detect_all g)
    → KeepsNotes (g.E.Calls.view c.args.engine.now) (g.E.Calls.view c.detect_all.new.engine) (g.N.Notes.tells c.args.notes.now)
    (g.N.Notes.tells c.detect_all.new.notes) (g.L.Sink.written c.args.log.now) (g.L.Sink.written c.retiring.log)
noted g c =
    let view = g.E.Calls.view in
    let tells = g.N.Notes.tells in
    let log = g.L.Sink.written in
    keeps-notes-then (view c.args.engine.now) (view c.retiring.engine) (view c.detect_all.new.engine) (tells c.args.notes.now)
    (tells c.retiring.notes) (tells c.detect_all.new.notes) (log c.args.log.now) (log c.retiring.log) (log c.retiring.log)
    c.retiring.invariant.leaves.onward.batch c.retiring.invariant.notes (c.detect_all.ensures.notes (log c.retiring.log))

pub retiring-init : goal.retiring-init
retiring-init g c =
    record {
      leaves = leaves-still c.requires.agrees;
      crew = c.requires.agrees.crew;
      written = λ start wrote. wrote;
      later = omega arith;
      later' = omega arith;
      notes = λ selective start are. are;
    }

pub returns-in_err-detect_all-clause-leaves : goal.returns-in_err-detect_all-clause-leaves
returns-in_err-detect_all-clause-leaves g c = leaves-then c.retiring.invariant.leaves c.detect_all.ensures.leaves

pub returns-in_err-detect_all-clause-partly : goal.returns-in_err-detect_all-clause-partly
returns-in_err-detect_all-clause-partly g c =
    let view = g.E.Calls.view in let written = g.O.Sink.written in
    on-err c.from_residual.result
    (KeepsPart (view c.args.engine.now) (view c.detect_all.new.engine) (written c.args.out.now) (written c.retiring.out))
    (λ start wrote. wrote-whole start (view c.detect_all.new.engine) (written c.retiring.out)
    (kept g (goal.at.returns-in_err-detect_all-clause-partly g c).After-detect_all start wrote))

pub returns-in_err-position-clause-leaves : goal.returns-in_err-position-clause-leaves
returns-in_err-position-clause-leaves g c =
    leaves-same (leaves-then c.retiring.invariant.leaves c.detect_all.ensures.leaves) c.in_err-position.ensures.err

pub returns-in_err-position-clause-crew : goal.returns-in_err-position-clause-crew
returns-in_err-position-clause-crew g c other = rw c.in_err-position.ensures.err c.in_ok-detect_all.ensures.crew

pub returns-in_err-position-clause-partly : goal.returns-in_err-position-clause-partly
returns-in_err-position-clause-partly g c =
    let view = g.E.Calls.view in let written = g.O.Sink.written in
    on-err c.from_residual-in_err-position.result
    (KeepsPart (view c.args.engine.now) (view c.retire.new.self) (written c.args.out.now) (written c.retire.new.out))
    (λ start wrote.
    rw c.in_err-position.ensures.err
    (wrote-part start (view c.detect_all.new.engine) (written c.retiring.out) (written c.retire.new.out) c.in_err-position.ensures.lines
    (kept g (goal.at.returns-in_err-position-clause-partly g c).After-detect_all start wrote)))

pub returns-in_default-clause-leaves : goal.returns-in_default-clause-leaves
returns-in_default-clause-leaves g c =
    leaves-alone (leaves-then c.retiring.invariant.leaves c.detect_all.ensures.leaves) c.in_ok-detect_all.ensures.crew
    (goes g (goal.at.returns-in_default-clause-leaves g c).In_ok-position)

pub returns-in_default-clause-crew : goal.returns-in_default-clause-crew
returns-in_default-clause-crew g c other =
    (goes g (goal.at.returns-in_default-clause-crew g c).In_ok-position).crew (g.C.Crew.posted c.detect_all.new.crew)
    (g.C.Crew.out c.detect_all.new.crew) c.in_ok-detect_all.ensures.crew

pub returns-in_default-clause-quiet : goal.returns-in_default-clause-quiet
returns-in_default-clause-quiet g c =
    retired-quiet (g.E.Calls.view c.detect_all.new.engine) (g.E.Calls.view c.retire.new.self) c.in_ok-detect_all.ensures.none_struck
    (rw c.in_default.is at c.in_ok-position.ensures.gives)

pub returns-in_default-clause-written : goal.returns-in_default-clause-written
returns-in_default-clause-written g c start wrote =
    let view = g.E.Calls.view in
    let gives = rw c.in_default.is at c.in_ok-position.ensures.gives in
    wrote-same start (view c.detect_all.new.engine) (view c.retire.new.self) (g.O.Sink.written c.retiring.out)
    (g.O.Sink.written c.retire.new.out)
    (ap (λ v. v.batch) gives.0) (retired-same (view c.detect_all.new.engine) (view c.retire.new.self) gives.0)
    (rw c.in_default.is at c.in_ok-position.ensures.lines)
    (kept g (goal.at.returns-in_default-clause-written g c).After-detect_all start wrote)

pub retiring-smaller : goal.retiring-smaller
retiring-smaller g c =
    let view = g.E.Calls.view in
    let less : left (view c.retire.new.self) < left (view c.detect_all.new.engine) =
    retired-leaves (view c.detect_all.new.engine) (view c.retire.new.self) c.in-Some.position c.detect_all.ensures.leaves.onward.stands
    (rw c.in-Some.is at c.in_ok-position.ensures.gives) in
    let most : left (view c.detect_all.new.engine) ≤ left (view c.retiring.engine) =
    onward-most (view c.retiring.engine) (view c.detect_all.new.engine) c.detect_all.ensures.leaves.onward in
    omega arith

pub retiring-preserved : goal.retiring-preserved
retiring-preserved g c =
    let view = g.E.Calls.view in
    let tells = g.N.Notes.tells in
    let log = g.L.Sink.written in
    let there = goal.at.retiring-preserved g c in
    let gives : RetireGives (view c.detect_all.new.engine) (view c.retire.new.self) (Some c.in-Some.position) =
    rw c.in-Some.is at c.in_ok-position.ensures.gives in
    record {
      leaves =
          leaves-alone (leaves-then c.retiring.invariant.leaves c.detect_all.ensures.leaves) c.in_ok-detect_all.ensures.crew
          (goes g there.In_ok-position);
      crew =
          (goes g there.In_ok-position).crew (g.C.Crew.posted c.detect_all.new.crew) (g.C.Crew.out c.detect_all.new.crew)
          c.in_ok-detect_all.ensures.crew;
      written = λ start wrote.
          wrote-more start (view c.detect_all.new.engine) (view c.retire.new.self) (g.O.Sink.written c.retiring.out)
          (g.O.Sink.written c.retire.new.out)
          (retired-oldest (view c.detect_all.new.engine) (view c.retire.new.self) c.in-Some.position gives)
          (rw c.in-Some.is at c.in_ok-position.ensures.lines) (kept g there.After-detect_all start wrote);
      later = let first = c.retiring.invariant.later in let second = c.retire.ensures.cause.later in omega arith;
      later' = let first = c.retiring.invariant.later' in let second = c.tell.ensures.cause.later in omega arith;
      notes =
          keeps-notes-then (view c.args.engine.now) (view c.detect_all.new.engine) (view c.retire.new.self) (tells c.args.notes.now)
          (tells c.detect_all.new.notes) (tells c.tell.new.notes) (log c.args.log.now) (log c.retiring.log) (log c.tell.new.log)
          (c.detect_all.ensures.leaves.onward.batch ∙ c.retiring.invariant.leaves.onward.batch) (noted g there.After-detect_all)
          (notes-told (view c.detect_all.new.engine) (view c.retire.new.self) c.in-Some.position (tells c.detect_all.new.notes)
          (tells c.tell.new.notes) (log c.retiring.log) (log c.tell.new.log) c.detect_all.ensures.leaves.onward.stands gives.1
          c.in_ok-tell.ensures.told);
    }

pub returns-in_err-detect_all-clause-stopped : goal.returns-in_err-detect_all-clause-stopped
returns-in_err-detect_all-clause-stopped g c =
    let view = g.E.Calls.view in
    let tells = g.N.Notes.tells in
    let log = g.L.Sink.written in
    on-err c.from_residual.result
    (StopsNotes (view c.args.engine.now) (view c.detect_all.new.engine) (tells c.args.notes.now) (tells c.detect_all.new.notes)
    g.N.Notes.part (log c.args.log.now) (log c.retiring.log))
    (keeps-stops (view c.args.engine.now) (view c.detect_all.new.engine) (tells c.args.notes.now) (tells c.detect_all.new.notes)
    g.N.Notes.part (log c.args.log.now) (log c.retiring.log)
    (noted g (goal.at.returns-in_err-detect_all-clause-stopped g c).After-detect_all))

pub returns-in_err-position-clause-stopped : goal.returns-in_err-position-clause-stopped
returns-in_err-position-clause-stopped g c =
    let view = g.E.Calls.view in
    let tells = g.N.Notes.tells in
    let log = g.L.Sink.written in
    on-err c.from_residual-in_err-position.result
    (StopsNotes (view c.args.engine.now) (view c.retire.new.self) (tells c.args.notes.now) (tells c.detect_all.new.notes)
    g.N.Notes.part (log c.args.log.now) (log c.retiring.log))
    (rw c.in_err-position.ensures.err
    (keeps-stops (view c.args.engine.now) (view c.detect_all.new.engine) (tells c.args.notes.now) (tells c.detect_all.new.notes)
    g.N.Notes.part (log c.args.log.now) (log c.retiring.log)
    (noted g (goal.at.returns-in_err-position-clause-stopped g c).After-detect_all)))

pub returns-in_default-clause-notes : goal.returns-in_default-clause-notes
returns-in_default-clause-notes g c =
    let gives = rw c.in_default.is at c.in_ok-position.ensures.gives in
    subst (λ v. KeepsNotes (g.E.Calls.view c.args.engine.now) v (g.N.Notes.tells c.args.notes.now)
    (g.N.Notes.tells c.detect_all.new.notes) (g.L.Sink.written c.args.log.now) (g.L.Sink.written c.retiring.log)) (sym gives.0)
    (noted g (goal.at.returns-in_default-clause-notes g c).After-detect_all)

pub returns-in_err-tell-clause-leaves : goal.returns-in_err-tell-clause-leaves
returns-in_err-tell-clause-leaves g c =
    leaves-alone (leaves-then c.retiring.invariant.leaves c.detect_all.ensures.leaves) c.in_ok-detect_all.ensures.crew
    (goes g (goal.at.returns-in_err-tell-clause-leaves g c).In_ok-position)

pub returns-in_err-tell-clause-crew : goal.returns-in_err-tell-clause-crew
returns-in_err-tell-clause-crew g c other =
    (goes g (goal.at.returns-in_err-tell-clause-crew g c).In_ok-position).crew (g.C.Crew.posted c.detect_all.new.crew)
    (g.C.Crew.out c.detect_all.new.crew) c.in_ok-detect_all.ensures.crew

pub returns-in_err-tell-clause-partly : goal.returns-in_err-tell-clause-partly
returns-in_err-tell-clause-partly g c =
    let view = g.E.Calls.view in let written = g.O.Sink.written in
    let gives : RetireGives (view c.detect_all.new.engine) (view c.retire.new.self) (Some c.in-Some.position) =
    rw c.in-Some.is at c.in_ok-position.ensures.gives in
    on-err c.from_residual-in_err-tell.result
    (KeepsPart (view c.args.engine.now) (view c.retire.new.self) (written c.args.out.now) (written c.retire.new.out))
    (λ start wrote. wrote-whole start (view c.retire.new.self) (written c.retire.new.out)
    (wrote-more start (view c.detect_all.new.engine) (view c.retire.new.self) (written c.retiring.out) (written c.retire.new.out)
    (retired-oldest (view c.detect_all.new.engine) (view c.retire.new.self) c.in-Some.position gives)
    (rw c.in-Some.is at c.in_ok-position.ensures.lines)
    (kept g (goal.at.returns-in_err-tell-clause-partly g c).After-detect_all start wrote)))

pub returns-in_err-tell-clause-stopped : goal.returns-in_err-tell-clause-stopped
returns-in_err-tell-clause-stopped g c =
    let view = g.E.Calls.view in
    let tells = g.N.Notes.tells in
    let log = g.L.Sink.written in
    let gives : RetireGives (view c.detect_all.new.engine) (view c.retire.new.self) (Some c.in-Some.position) =
    rw c.in-Some.is at c.in_ok-position.ensures.gives in
    on-err c.from_residual-in_err-tell.result
    (StopsNotes (view c.args.engine.now) (view c.retire.new.self) (tells c.args.notes.now) (tells c.tell.new.notes) g.N.Notes.part
    (log c.args.log.now) (log c.tell.new.log))
    (stops-then (view c.args.engine.now) (view c.detect_all.new.engine) (view c.retire.new.self) (tells c.args.notes.now)
    (tells c.detect_all.new.notes) (tells c.tell.new.notes) g.N.Notes.part (log c.args.log.now) (log c.retiring.log) (log c.tell.new.log)
    (c.detect_all.ensures.leaves.onward.batch ∙ c.retiring.invariant.leaves.onward.batch)
    (noted g (goal.at.returns-in_err-tell-clause-stopped g c).After-detect_all)
    (notes-part (view c.detect_all.new.engine) (view c.retire.new.self) c.in-Some.position (tells c.detect_all.new.notes)
    (tells c.tell.new.notes) g.N.Notes.part (log c.retiring.log) (log c.tell.new.log) c.detect_all.ensures.leaves.onward.stands gives.1
    c.in_err-tell.ensures.part))
