use Rattle.std.proofs.Common.{ap, Err, refl}
use Rattle.batch_calls.specs.inner.Planned.{work_planned}
use Rattle.call_cases.specs.meaning.Answers.{change_of}
use Rattle.batch_calls.proofs.RanPieces.{stops_by, soak_without_run, soak_without_summary, soak_whole}
use Rattle.batch_calls.proofs.run.put_soak.Goals as goal

pub returns-in-Err : goal.returns-in-Err
returns-in-Err g c =
    let work = work_planned c.args.basis.now.plan.now c.args.begins in
    let out = change_of g.O.Sink.written g.O.Sink.faults c.args.out.now c.args.out.now in
    soak_without_run work c.args.soak c.requires.run out _ c.in-Err.stop refl refl refl c.in-Err.ensures

pub returns-in-Ok-put_summary : goal.returns-in-Ok-put_summary
returns-in-Ok-put_summary g c =
    let work = work_planned c.args.basis.now.plan.now c.args.begins in
    let out = change_of g.O.Sink.written g.O.Sink.faults c.args.out.now c.put_summary.new.out in
    soak_whole work c.args.soak c.requires.run out _ c.in-Ok.report
    c.in-Ok.ensures c.in-Ok-put_summary.ensures.all

pub returns-in-Err-put_summary : goal.returns-in-Err-put_summary
returns-in-Err-put_summary g c =
    let work = work_planned c.args.basis.now.plan.now c.args.begins in
    let out = change_of g.O.Sink.written g.O.Sink.faults c.args.out.now c.put_summary.new.out in
    soak_without_summary work c.args.soak c.requires.run out _ c.in-Ok.report c.in-Ok.ensures c.stopped.result
    c.in-Err-put_summary.fault
    (stops_by c.in-Err-put_summary.fault c.in-Ok.report.journal c.stopped.result c.stopped.ensures.why c.stopped.ensures.journal)
    c.in-Err-put_summary.ensures.prefix
    (λ is. c.in-Err-put_summary.ensures.cause.failed (ap Err is))
