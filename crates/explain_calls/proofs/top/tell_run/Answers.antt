use Rattle.std.proofs.Common.{◌∙◌, [], ap, sym, subst, Err, append-nil}
use Rattle.gp_base.specs.declared.sink.SinkFault.TheVariants as sink
use Rattle.gp_base.proofs.Written.{prefix_none}
use Rattle.call_cases.specs.meaning.Answers.{change_of, TakesAll, TakesPart}
use Rattle.call_cases.specs.meaning.PlainText.{plain_ran}
use Rattle.call_cases.specs.meaning.RunCommands.{end_status}
use Rattle.call_cases.specs.Answers.{whole}
use Rattle.call_cases.specs.Decided.{work_of}
use Rattle.call_cases.proofs.Headlines.{none_taken}
use Rattle.explain_calls.specs.Endings.{TellEnds, told, untold}
use Rattle.explain_calls.specs.meaning.Fronts.{front}
use Rattle.explain_calls.proofs.Fronts.{ran-end}
use Rattle.explain_calls.proofs.top.tell_run.Goals as goal

pub returns-in_default : goal.returns-in_default
returns-in_default g c =
    let work = work_of c.args.request.now in
    let text = front work.program work.inputs work.limits in (
      text,
      ([], sym (append-nil text)),
      untold sink.OutOfMemory (prefix_none (g.O.Sink.written c.args.out.now) text) (λ is. absurd (cc is)) c.stop_by.ensures,
    )

pub returns-in-Ok-put_all : goal.returns-in-Ok-put_all
returns-in-Ok-put_all g c =
    let work = work_of c.args.request.now in
    let out = change_of g.O.Sink.written g.O.Sink.faults c.args.out.now c.put_all.new.to in
    let err = change_of g.E.Sink.written g.E.Sink.faults c.args.err.now c.args.err.now in (
      c.in-Ok.told.text,
      c.in-Ok.ensures.text,
      subst (TellEnds c.in-Ok.told.text (end_status (plain_ran work).end) [] out err)
          (ap end_status (sym (ran-end work) ∙ sym c.in-Ok.ensures.end) ∙ sym c.end_status.ensures)
          (told (subst (TakesAll out) c.as_slice.ensures c.in-Ok-put_all.ensures.all) (whole (none_taken (g.E.Sink.written c.args.err.now)))),
    )

pub returns : goal.returns
returns g c =
    let out = change_of g.O.Sink.written g.O.Sink.faults c.args.out.now c.put_all.new.to in (
      c.in-Ok.told.text,
      c.in-Ok.ensures.text,
      untold c.in-Err.fault (subst (TakesPart out) c.as_slice.ensures c.in-Err.ensures.prefix)
          (λ is. c.in-Err.ensures.cause.failed (ap Err is)) c.stop_by-in-Err.ensures,
    )
