use Rattle.batch_calls.specs.inner.Planned.{work_planned}
use Rattle.batch_calls.proofs.waiting.carry_lasting.Goals as goal

pub returns-in-Err : goal.returns-in-Err
returns-in-Err g c =
    c.unbegun.ensures c.args.basis.now.plan.now.asked (work_planned c.args.basis.now.plan.now c.args.begins)
    (g.O.Sink.written c.args.out.now) (g.O.Sink.faults c.args.out.now)
