use Rattle.std.proofs.Common.{◌⊎◌, inl, ap, sym, subst, Err}
use Rattle.call_cases.specs.meaning.Answers.{Fails, IsEmpty, change_of}
use Rattle.batch_calls.specs.inner.Planned.{work_planned}
use Rattle.batch_calls.specs.inner.Ran.{WritesLines}
use Rattle.batch_calls.proofs.RanPieces.{stops_by, rose_later, rose_last, ran_without_first, ran_without_lines, ran_without_tail, ran_whole}
use Rattle.batch_calls.proofs.LoggedPieces.{fails_later, logs_nothing, logs_before}
use Rattle.batch_calls.proofs.logged.put_logged.Goals as goal

pub returns-in-Err-clause-text : goal.returns-in-Err-clause-text
returns-in-Err-clause-text g c =
    let work = work_planned c.args.basis.now.plan.now c.args.begins in
    let out = change_of g.O.Sink.written g.O.Sink.faults c.args.out.now c.put_all.new.to in
    let log = change_of g.L.Sink.written g.L.Sink.faults c.args.log.now c.args.log.now in
    ran_without_first (Fails out ⊎ Fails log) work
    (subst WritesLines (sym c.requires.run) tt) out c.stopped.result c.empty_journal.result c.in-Err.fault
    c.empty_journal.ensures (stops_by c.in-Err.fault c.empty_journal.result c.stopped.result c.stopped.ensures.why
    c.stopped.ensures.journal) c.in-Err.ensures.prefix
    (λ is. inl (c.in-Err.ensures.cause.failed (ap Err is)))

pub returns-in-Err-clause-log : goal.returns-in-Err-clause-log
returns-in-Err-clause-log g c =
    let work = work_planned c.args.basis.now.plan.now c.args.begins in
    logs_nothing work (g.L.Sink.written c.args.log.now) (g.L.Sink.faults c.args.log.now) c.stopped.result
    (subst IsEmpty (sym c.stopped.ensures.journal) c.empty_journal.ensures)

pub returns-in-Err-put_noted-clause-text : goal.returns-in-Err-put_noted-clause-text
returns-in-Err-put_noted-clause-text g c =
    let work = work_planned c.args.basis.now.plan.now c.args.begins in
    let written = g.O.Sink.written in
    let faults = g.O.Sink.faults in
    let log = change_of g.L.Sink.written g.L.Sink.faults c.args.log.now c.put_noted.new.log in
    let out = change_of written faults c.args.out.now c.put_noted.new.out in
    let lines = change_of written faults c.put_all.new.to c.put_noted.new.out in
    ran_without_lines (Fails out ⊎ Fails log) work (subst WritesLines (sym c.requires.run) tt)
    (written c.args.out.now) (written c.put_all.new.to) (written c.put_noted.new.out) (faults c.args.out.now) (faults c.put_all.new.to)
    (faults c.put_noted.new.out)
    c.in-Err-put_noted.stop (Fails lines ⊎ Fails log) c.in-Ok.ensures.all c.in-Err-put_noted.ensures.lines
    (fails_later (Fails lines) (Fails out) (Fails log)
    (rose_later (faults c.args.out.now) (faults c.put_all.new.to) (faults c.put_noted.new.out) c.in-Ok.ensures.cause.later))

pub returns-in-Ok-put_tail-clause-text : goal.returns-in-Ok-put_tail-clause-text
returns-in-Ok-put_tail-clause-text g c =
    let work = work_planned c.args.basis.now.plan.now c.args.begins in
    let written = g.O.Sink.written in
    let faults = g.O.Sink.faults in
    let log = change_of g.L.Sink.written g.L.Sink.faults c.args.log.now c.put_noted.new.log in
    let out = change_of written faults c.args.out.now c.put_tail.new.out in
    let lines = change_of written faults c.put_all.new.to c.put_noted.new.out in
    ran_whole (Fails out ⊎ Fails log) work (subst WritesLines (sym c.requires.run) tt)
    (written c.args.out.now) (written c.put_all.new.to) (written c.put_noted.new.out) (written c.put_tail.new.out)
    (faults c.args.out.now) (faults c.put_all.new.to) (faults c.put_noted.new.out) (faults c.put_tail.new.out)
    c.in-Ok-put_noted.report (Fails lines ⊎ Fails log) c.in-Ok.ensures.all c.in-Ok-put_noted.ensures.lines c.in-Ok-put_tail.ensures.all

pub returns-in-Err-put_noted-clause-log : goal.returns-in-Err-put_noted-clause-log
returns-in-Err-put_noted-clause-log g c = c.in-Err-put_noted.ensures.log

pub returns-in-Ok-put_tail-clause-log : goal.returns-in-Ok-put_tail-clause-log
returns-in-Ok-put_tail-clause-log g c = c.in-Ok-put_noted.ensures.log

pub returns-in-Err-put_tail-clause-text : goal.returns-in-Err-put_tail-clause-text
returns-in-Err-put_tail-clause-text g c =
    let work = work_planned c.args.basis.now.plan.now c.args.begins in
    let written = g.O.Sink.written in
    let faults = g.O.Sink.faults in
    let log = change_of g.L.Sink.written g.L.Sink.faults c.args.log.now c.put_noted.new.log in
    let out = change_of written faults c.args.out.now c.put_tail.new.out in
    let lines = change_of written faults c.put_all.new.to c.put_noted.new.out in
    ran_without_tail (Fails out ⊎ Fails log) work (subst WritesLines (sym c.requires.run) tt)
    (written c.args.out.now) (written c.put_all.new.to) (written c.put_noted.new.out) (written c.put_tail.new.out)
    (faults c.args.out.now) (faults c.put_all.new.to) (faults c.put_noted.new.out) (faults c.put_tail.new.out)
    c.in-Ok-put_noted.report (Fails lines ⊎ Fails log) c.in-Ok.ensures.all c.in-Ok-put_noted.ensures.lines
    c.stopped-in-Err-put_tail.result c.in-Err-put_tail.fault
    (stops_by c.in-Err-put_tail.fault c.in-Ok-put_noted.report.journal c.stopped-in-Err-put_tail.result
    c.stopped-in-Err-put_tail.ensures.why c.stopped-in-Err-put_tail.ensures.journal)
    c.in-Err-put_tail.ensures.prefix
    (λ is. inl (rose_last (faults c.args.out.now) (faults c.put_all.new.to) (faults c.put_noted.new.out) (faults c.put_tail.new.out)
    c.in-Ok.ensures.cause.later c.in-Ok-put_noted.ensures.lines.later (c.in-Err-put_tail.ensures.cause.failed (ap Err is))))

pub returns-in-Err-put_tail-clause-log : goal.returns-in-Err-put_tail-clause-log
returns-in-Err-put_tail-clause-log g c =
    let work = work_planned c.args.basis.now.plan.now c.args.begins in
    let log = change_of g.L.Sink.written g.L.Sink.faults c.args.log.now c.put_noted.new.log in
    logs_before work log c.in-Ok-put_noted.report c.stopped-in-Err-put_tail.result c.in-Ok-put_noted.ensures.log
    c.stopped-in-Err-put_tail.ensures.journal
