use Rattle.std.proofs.Common.{ap, Err}
use Rattle.batch_calls.specs.inner.Planned.{work_planned}
use Rattle.call_cases.specs.meaning.Answers.{Fails, change_of}
use Rattle.batch_calls.proofs.RanPieces.{stops_by, rose_later, rose_last, ran_without_first, ran_without_lines, ran_without_tail, ran_whole}
use Rattle.batch_calls.proofs.run.put_run.Goals as goal

pub returns-in-Err : goal.returns-in-Err
returns-in-Err g c =
    let work = work_planned c.args.basis.now.plan.now c.args.begins in
    let out = change_of g.O.Sink.written g.O.Sink.faults c.args.out.now c.put_all.new.to in
    ran_without_first (Fails out) work c.requires.lines out c.stopped.result c.empty_journal.result
    c.in-Err.fault c.empty_journal.ensures
    (stops_by c.in-Err.fault c.empty_journal.result c.stopped.result c.stopped.ensures.why c.stopped.ensures.journal)
    c.in-Err.ensures.prefix
    (λ is. c.in-Err.ensures.cause.failed (ap Err is))

pub returns-in-Err-put_lines : goal.returns-in-Err-put_lines
returns-in-Err-put_lines g c =
    let work = work_planned c.args.basis.now.plan.now c.args.begins in
    let written = g.O.Sink.written in
    let faults = g.O.Sink.faults in
    ran_without_lines (Fails (change_of written faults c.args.out.now c.put_lines.new.out)) work c.requires.lines
    (written c.args.out.now) (written c.put_all.new.to) (written c.put_lines.new.out) (faults c.args.out.now) (faults c.put_all.new.to)
    (faults c.put_lines.new.out)
    c.in-Err-put_lines.stop (Fails (change_of written faults c.put_all.new.to c.put_lines.new.out)) c.in-Ok.ensures.all
    c.in-Err-put_lines.ensures
    (rose_later (faults c.args.out.now) (faults c.put_all.new.to) (faults c.put_lines.new.out) c.in-Ok.ensures.cause.later)

pub returns-in-Ok-put_tail : goal.returns-in-Ok-put_tail
returns-in-Ok-put_tail g c =
    let work = work_planned c.args.basis.now.plan.now c.args.begins in
    let written = g.O.Sink.written in
    let faults = g.O.Sink.faults in
    ran_whole (Fails (change_of written faults c.args.out.now c.put_tail.new.out)) work c.requires.lines
    (written c.args.out.now) (written c.put_all.new.to) (written c.put_lines.new.out) (written c.put_tail.new.out)
    (faults c.args.out.now) (faults c.put_all.new.to) (faults c.put_lines.new.out) (faults c.put_tail.new.out)
    c.in-Ok-put_lines.report (Fails (change_of written faults c.put_all.new.to c.put_lines.new.out)) c.in-Ok.ensures.all
    c.in-Ok-put_lines.ensures c.in-Ok-put_tail.ensures.all

pub returns-in-Err-put_tail : goal.returns-in-Err-put_tail
returns-in-Err-put_tail g c =
    let work = work_planned c.args.basis.now.plan.now c.args.begins in
    let written = g.O.Sink.written in
    let faults = g.O.Sink.faults in
    ran_without_tail (Fails (change_of written faults c.args.out.now c.put_tail.new.out)) work c.requires.lines
    (written c.args.out.now) (written c.put_all.new.to) (written c.put_lines.new.out) (written c.put_tail.new.out)
    (faults c.args.out.now) (faults c.put_all.new.to) (faults c.put_lines.new.out) (faults c.put_tail.new.out)
    c.in-Ok-put_lines.report (Fails (change_of written faults c.put_all.new.to c.put_lines.new.out)) c.in-Ok.ensures.all
    c.in-Ok-put_lines.ensures
    c.stopped-in-Err-put_tail.result c.in-Err-put_tail.fault
    (stops_by c.in-Err-put_tail.fault c.in-Ok-put_lines.report.journal c.stopped-in-Err-put_tail.result
    c.stopped-in-Err-put_tail.ensures.why c.stopped-in-Err-put_tail.ensures.journal)
    c.in-Err-put_tail.ensures.prefix
    (λ is. rose_last (faults c.args.out.now) (faults c.put_all.new.to) (faults c.put_lines.new.out) (faults c.put_tail.new.out)
    c.in-Ok.ensures.cause.later c.in-Ok-put_lines.ensures.later (c.in-Err-put_tail.ensures.cause.failed (ap Err is)))
