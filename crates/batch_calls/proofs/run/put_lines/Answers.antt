use Rattle.std.proofs.Common.{refl, sym, ◌∙◌}
use Rattle.whole_run.specs.Drive.{batch_of}
use Rattle.whole_run.specs.declared.recovery.Recovery.TheVariants.{Selective, Rollback}
use Rattle.call_cases.specs.meaning.Answers.{change_of}
use Rattle.batch_calls.specs.inner.Planned.{work_planned}
use Rattle.batch_calls.proofs.RanPieces.{runs_work}
use Rattle.batch_calls.proofs.run.put_lines.Goals as goal

pub returns-in-Selective : goal.returns-in-Selective
returns-in-Selective g c =
    let begins = c.args.begins in
    let planned = c.requires.planned in
    let ran = c.drive.ensures in
    runs_work (batch_of Selective c.args.basis.now.work.now begins.inputs begins.limits begins.faults)
    (work_planned c.args.basis.now.plan.now begins) planned.program_is refl planned.limits_are refl
    (sym c.in-Selective.is ∙ planned.recovery_is)
    (change_of g.O.Sink.written g.O.Sink.faults c.args.out.now c.drive.new.out) c.drive.result
    (record { journal = ran.journal; report = ran.report; lines = ran.lines; partly = ran.partly; cause = ran.cause })

pub returns-in-Rollback : goal.returns-in-Rollback
returns-in-Rollback g c =
    let begins = c.args.begins in
    let planned = c.requires.planned in
    let ran = c.ckpt_drive.ensures in
    runs_work (batch_of (Rollback c.in-Rollback.every) c.args.basis.now.work.now begins.inputs begins.limits begins.faults)
    (work_planned c.args.basis.now.plan.now begins) planned.program_is refl planned.limits_are refl
    (sym c.in-Rollback.is ∙ planned.recovery_is)
    (change_of g.O.Sink.written g.O.Sink.faults c.args.out.now c.ckpt_drive.new.out) c.ckpt_drive.result
    (record { journal = ran.journal; report = ran.report; lines = ran.lines; partly = ran.partly; cause = ran.cause })
