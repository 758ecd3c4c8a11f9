use Rattle.call_cases.specs.Decided.{work_of}
use Rattle.batch_calls.proofs.crews.carry_out.Goals as goal

pub returns-in-Err : goal.returns-in-Err
returns-in-Err g c =
    c.unbegun.ensures c.args.request.asked (work_of c.args.request) (g.O.Sink.written c.args.out.now) (g.O.Sink.faults c.args.out.now)
