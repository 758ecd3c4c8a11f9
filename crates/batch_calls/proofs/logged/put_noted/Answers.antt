use Rattle.std.proofs.Common.{◌⊎◌, refl, sym, ap}
use Rattle.engine.specs.Drive.{batch_of}
use Rattle.call_cases.specs.meaning.Answers.{Fails, change_of}
use Rattle.batch_calls.specs.inner.Planned.{recovery_of, work_planned}
use Rattle.batch_calls.proofs.RanPieces.{runs_if}
use Rattle.batch_calls.proofs.LoggedPieces.{logs_run}
use Rattle.batch_calls.proofs.logged.put_noted.Goals as goal

pub returns-clause-lines : goal.returns-clause-lines
returns-clause-lines g c =
    let begins = c.args.begins in
    let work = work_planned c.args.basis.now.plan.now begins in
    let out = change_of g.O.Sink.written g.O.Sink.faults c.args.out.now c.drive_noted.new.out in
    let log = change_of g.L.Sink.written g.L.Sink.faults c.args.log.now c.drive_noted.new.log in
    let planned = c.requires.planned in
    let ran = c.drive_noted.ensures in
    runs_if (batch_of c.args.basis.now.work.now begins.inputs begins.limits begins.faults) work planned.program_is refl planned.limits_are refl
    (sym (ap recovery_of c.requires.run))
    (Fails out ⊎ Fails log) out c.drive_noted.result ran.journal ran.report ran.lines ran.partly ran.cause.later ran.cause.failed

pub returns-clause-log : goal.returns-clause-log
returns-clause-log g c =
    let begins = c.args.begins in
    let work = work_planned c.args.basis.now.plan.now begins in
    let out = change_of g.O.Sink.written g.O.Sink.faults c.args.out.now c.drive_noted.new.out in
    let log = change_of g.L.Sink.written g.L.Sink.faults c.args.log.now c.drive_noted.new.log in
    let batch = batch_of c.args.basis.now.work.now begins.inputs begins.limits begins.faults in
    let planned = c.requires.planned in
    let recovery = sym (ap recovery_of c.requires.run) in
    let ran = c.drive_noted.ensures in
    let runs = runs_if batch work planned.program_is refl planned.limits_are refl recovery
    (Fails out ⊎ Fails log) out c.drive_noted.result ran.journal ran.report ran.lines ran.partly ran.cause.later ran.cause.failed in
    logs_run batch work planned.program_is refl planned.limits_are refl recovery c.new-notes.result c.drive_noted.new.notes log
    (c.new-notes.ensures log.written) refl
    c.drive_noted.result runs.report ran.notes
