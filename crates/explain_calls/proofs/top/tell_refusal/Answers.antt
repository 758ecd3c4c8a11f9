use Rattle.std.proofs.Common.{ap, subst, Err}
use Rattle.call_cases.specs.meaning.Answers.{change_of, TakesAll, TakesPart}
use Rattle.explain_calls.specs.Endings.{told, untold}
use Rattle.explain_calls.proofs.top.tell_refusal.Goals as goal

pub returns-in-Ok : goal.returns-in-Ok
returns-in-Ok g c =
    let out = change_of g.O.Sink.written g.O.Sink.faults c.args.out.now c.put_all.new.to in
    told (subst (TakesAll out) c.as_slice.ensures c.in-Ok.ensures.all) c.refuse.ensures

pub returns-in-Err : goal.returns-in-Err
returns-in-Err g c =
    let out = change_of g.O.Sink.written g.O.Sink.faults c.args.out.now c.put_all.new.to in
    untold c.in-Err.fault (subst (TakesPart out) c.as_slice.ensures c.in-Err.ensures.prefix)
    (λ is. c.in-Err.ensures.cause.failed (ap Err is)) c.stop_by.ensures
