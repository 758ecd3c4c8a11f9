use Rattle.std.proofs.Common.{◌∙◌, sym, ap, subst}
use Rattle.std.specs.Io.KnownBytes.{Appends}
use Rattle.restart_log.specs.meaning.Lines.{printed}
use Rattle.whole_run.specs.Drive.{JournalStands, ReportsRun, all_lines, WritesRetired}
use Rattle.whole_run.specs.inner.Rounds.{Wrote}
use Rattle.whole_run.proofs.Crews.{crew-begun}
use Rattle.whole_run.proofs.Noting.{notes-finished, notes-stopped}
use Rattle.whole_run.proofs.Outcomes.{complete-home, journal-stands, run-reported, wrote-none, part-written, all-written, posts-told, untaken-told}
use Rattle.whole_run.proofs.Written.{wrote-whole}
use Rattle.whole_run.proofs.driver.finish.Goals as goal
use Rattle.whole_run.proofs.driver.finish.Goals.{In-Ok}

pub run_rounds-requires-clause-agrees : goal.run_rounds-requires-clause-agrees
run_rounds-requires-clause-agrees g c lifetimes within =
    record {
      stands = c.requires.stands;
      is_ready = c.requires.unposted.ready;
      work_is = c.requires.unposted.work;
      crew = rw c.requires.begun
          (crew-begun (g.E.Calls.view c.args.engine).batch (g.C.Crew.posted c.args.crew.now) (g.C.Crew.out c.args.crew.now)
          c.requires.unposted.none_posted c.requires.unposted.none_out);
    }

pub into_report-requires : goal.into_report-requires
into_report-requires g c =
    record {
      home = complete-home (g.E.Calls.view c.run_rounds.new.engine) c.run_rounds.ensures.leaves.onward.stands c.in-Ok.ensures.complete;
    }

-- what was written when the run was complete
wrote : (g : _) (c : In-Ok g)
    → Wrote (g.O.Sink.written c.args.out.now) (g.E.Calls.view c.run_rounds.new.engine) (g.O.Sink.written c.run_rounds.new.out)
wrote g c =
    c.in-Ok.ensures.written (g.O.Sink.written c.args.out.now)
    (wrote-none (g.E.Calls.view c.args.engine) (g.O.Sink.written c.args.out.now) c.requires.begun)

pub returns-in-Ok-clause-journal : goal.returns-in-Ok-clause-journal
returns-in-Ok-clause-journal g c =
    subst (λ batch. JournalStands batch c.into_report.result.journal) c.run_rounds.ensures.leaves.onward.batch
    (journal-stands (g.E.Calls.view c.run_rounds.new.engine) c.into_report.result.journal c.run_rounds.ensures.leaves.onward.stands
    c.into_report.ensures.journal)

pub returns-in-Ok-clause-report : goal.returns-in-Ok-clause-report
returns-in-Ok-clause-report g c =
    subst (λ batch. ReportsRun batch c.into_report.result) c.run_rounds.ensures.leaves.onward.batch
    (run-reported (g.E.Calls.view c.run_rounds.new.engine) c.in-Ok.end c.into_report.result c.run_rounds.ensures.leaves.onward.stands
    c.in-Ok.ensures.complete c.in-Ok.ensures.end c.into_report.ensures)

pub returns-in-Ok-clause-lines : goal.returns-in-Ok-clause-lines
returns-in-Ok-clause-lines g c =
    subst (λ batch. Appends (g.O.Sink.written c.args.out.now) (g.O.Sink.written c.run_rounds.new.out) (printed (all_lines batch)))
    c.run_rounds.ensures.leaves.onward.batch
    (all-written (g.E.Calls.view c.run_rounds.new.engine) (g.O.Sink.written c.args.out.now) (g.O.Sink.written c.run_rounds.new.out)
    c.in-Ok.ensures.complete
    (wrote g (goal.at.returns-in-Ok-clause-lines g c).In-Ok))

pub returns-in-Ok-clause-partly : goal.returns-in-Ok-clause-partly
returns-in-Ok-clause-partly g c =
    subst
    (λ batch. WritesRetired batch (g.O.Sink.written c.args.out.now) (g.O.Sink.written c.run_rounds.new.out) c.into_report.result.journal)
    c.run_rounds.ensures.leaves.onward.batch
    (part-written (g.E.Calls.view c.run_rounds.new.engine) c.into_report.result.journal (g.O.Sink.written c.args.out.now)
    (g.O.Sink.written c.run_rounds.new.out) c.into_report.ensures.journal
    (wrote-whole (g.O.Sink.written c.args.out.now) (g.E.Calls.view c.run_rounds.new.engine) (g.O.Sink.written c.run_rounds.new.out)
    (wrote g (goal.at.returns-in-Ok-clause-partly g c).In-Ok)))

pub returns-in-Ok-clause-posts : goal.returns-in-Ok-clause-posts
returns-in-Ok-clause-posts g c =
    posts-told (g.E.Calls.view c.run_rounds.new.engine) c.into_report.result.journal (g.C.Crew.posted c.run_rounds.new.crew)
    c.into_report.ensures.journal c.run_rounds.ensures.leaves.posted_are

pub returns-in-Ok-clause-out : goal.returns-in-Ok-clause-out
returns-in-Ok-clause-out g c other =
    untaken-told (g.E.Calls.view c.run_rounds.new.engine) c.into_report.result.journal (g.C.Crew.posted c.run_rounds.new.crew)
    (g.C.Crew.out c.run_rounds.new.crew) c.into_report.ensures.journal
    (c.in-Ok.ensures.crew (λ e. absurd (cc e)))

pub returns-in-Err-clause-journal : goal.returns-in-Err-clause-journal
returns-in-Err-clause-journal g c =
    subst (λ batch. JournalStands batch c.into_journal-journal.result) c.run_rounds.ensures.leaves.onward.batch
    (journal-stands (g.E.Calls.view c.run_rounds.new.engine) c.into_journal-journal.result c.run_rounds.ensures.leaves.onward.stands
    c.into_journal-journal.ensures)

pub returns-in-Err-clause-partly : goal.returns-in-Err-clause-partly
returns-in-Err-clause-partly g c =
    subst
    (λ batch. WritesRetired batch (g.O.Sink.written c.args.out.now) (g.O.Sink.written c.run_rounds.new.out) c.into_journal-journal.result)
    c.run_rounds.ensures.leaves.onward.batch
    (part-written (g.E.Calls.view c.run_rounds.new.engine) c.into_journal-journal.result (g.O.Sink.written c.args.out.now)
    (g.O.Sink.written c.run_rounds.new.out) c.into_journal-journal.ensures
    (c.in-Err.ensures.partly (g.O.Sink.written c.args.out.now)
    (wrote-none (g.E.Calls.view c.args.engine) (g.O.Sink.written c.args.out.now) c.requires.begun)))

pub returns-in-Err-clause-posts : goal.returns-in-Err-clause-posts
returns-in-Err-clause-posts g c =
    posts-told (g.E.Calls.view c.run_rounds.new.engine) c.into_journal-journal.result (g.C.Crew.posted c.run_rounds.new.crew)
    c.into_journal-journal.ensures c.run_rounds.ensures.leaves.posted_are

pub returns-in-Err-clause-out : goal.returns-in-Err-clause-out
returns-in-Err-clause-out g c other =
    untaken-told (g.E.Calls.view c.run_rounds.new.engine) c.into_journal-journal.result (g.C.Crew.posted c.run_rounds.new.crew)
    (g.C.Crew.out c.run_rounds.new.crew) c.into_journal-journal.ensures
    (c.in-Err.ensures.crew (λ e. other (cc e)))

pub returns-in-Ok-clause-work : goal.returns-in-Ok-clause-work
returns-in-Ok-clause-work g c =
    c.run_rounds.ensures.leaves.work_is ∙ (ap (λ batch. batch.work) c.run_rounds.ensures.leaves.onward.batch ∙ sym c.requires.unposted.work)

pub returns-in-Err-clause-work : goal.returns-in-Err-clause-work
returns-in-Err-clause-work g c =
    c.run_rounds.ensures.leaves.work_is ∙ (ap (λ batch. batch.work) c.run_rounds.ensures.leaves.onward.batch ∙ sym c.requires.unposted.work)

pub returns-in-Ok-clause-notes : goal.returns-in-Ok-clause-notes
returns-in-Ok-clause-notes g c =
    let view = g.E.Calls.view in
    let tells = g.N.Notes.tells in
    let log = g.L.Sink.written in
    notes-finished (view c.args.engine) (view c.run_rounds.new.engine) (tells c.args.notes.now) (tells c.run_rounds.new.notes)
    g.N.Notes.part (log c.args.log.now) (log c.run_rounds.new.log) c.into_report.result c.requires.begun
    c.run_rounds.ensures.leaves.onward.batch c.into_report.ensures.journal c.in-Ok.ensures.notes

pub returns-in-Err-clause-notes : goal.returns-in-Err-clause-notes
returns-in-Err-clause-notes g c =
    let view = g.E.Calls.view in
    let tells = g.N.Notes.tells in
    let log = g.L.Sink.written in
    notes-stopped (view c.args.engine) (view c.run_rounds.new.engine) (tells c.args.notes.now) (tells c.run_rounds.new.notes)
    g.N.Notes.part (log c.args.log.now) (log c.run_rounds.new.log)
    (record { why = c.in-Err.why; journal = c.into_journal-journal.result }) c.requires.begun
    c.run_rounds.ensures.leaves.onward.batch c.into_journal-journal.ensures c.in-Err.ensures.stopped
