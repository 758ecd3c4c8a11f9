use Rattle.std.proofs.Common.{ap, sym, subst}
use Rattle.std.specs.Result.{OnOk}
use Rattle.std.specs.Io.KnownBytes.{Appends}
use Rattle.crew.specs.Unposted.{IsUnposted}
use Rattle.reorder_list.specs.declared.report.StopWhy.TheVariants.{OutOfMemory}
use Rattle.restart_log.specs.meaning.Lines.{printed}
use Rattle.whole_run.specs.Drive.{all_lines}
use Rattle.whole_run.specs.Starting.{batch_asked}
use Rattle.whole_run.specs.Notes.{NotesRun}
use Rattle.whole_run.proofs.Beginning.{no-journal, no-lines, no-notes}
use Rattle.whole_run.proofs.driver.drive_by.Goals as goal

pub finish-requires-clause-unposted : goal.finish-requires-clause-unposted
finish-requires-clause-unposted g c lifetimes within =
    subst (λ batch. IsUnposted g.C.Crew.ready g.C.Crew.work g.C.Crew.out g.C.Crew.posted c.args.crew.now batch.work)
    (sym (ap (λ v. v.batch) c.in-Ok.ensures)) c.requires.unposted

pub returns-in-Ok-clause-lines : goal.returns-in-Ok-clause-lines
returns-in-Ok-clause-lines g c =
    subst (λ batch. OnOk c.finish.result
    (Appends (g.O.Sink.written c.args.out.now) (g.O.Sink.written c.finish.new.out) (printed (all_lines batch))))
    (ap (λ v. v.batch) c.in-Ok.ensures) c.finish.ensures.lines

pub returns-in-Err-clause-journal : goal.returns-in-Err-clause-journal
returns-in-Err-clause-journal g c =
    no-journal (batch_asked c.args.run) c.new-in-Err.result c.new-in-Err-2.result c.new-in-Err.ensures c.new-in-Err-2.ensures

pub returns-in-Err-clause-partly : goal.returns-in-Err-clause-partly
returns-in-Err-clause-partly g c =
    no-lines (batch_asked c.args.run) (g.O.Sink.written c.args.out.now) c.new-in-Err.result c.new-in-Err-2.result c.new-in-Err.ensures

pub returns-in-Ok-clause-notes : goal.returns-in-Ok-clause-notes
returns-in-Ok-clause-notes g c =
    subst (λ batch. NotesRun (g.N.Notes.tells c.args.notes.now) (g.N.Notes.tells c.finish.new.notes) g.N.Notes.part batch
    (g.L.Sink.written c.args.log.now) (g.L.Sink.written c.finish.new.log) c.finish.result)
    (ap (λ v. v.batch) c.in-Ok.ensures) c.finish.ensures.notes

pub returns-in-Err-clause-notes : goal.returns-in-Err-clause-notes
returns-in-Err-clause-notes g c =
    no-notes (batch_asked c.args.run) (g.N.Notes.tells c.args.notes.now) g.N.Notes.part (g.L.Sink.written c.args.log.now) OutOfMemory
    c.new-in-Err.result c.new-in-Err-2.result c.new-in-Err.ensures c.new-in-Err-2.ensures
