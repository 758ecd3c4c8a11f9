use Rattle.std.proofs.Common.{refl}
use Rattle.call_cases.specs.declared.lines.Tool.TheVariants.{Gprs}
use Rattle.call_cases.specs.meaning.Answers.{change_of}
use Rattle.call_cases.proofs.Headlines.{put_whole, put_stopped}
use Rattle.call_cases.proofs.endings.plain_outcome.Goals as goal

pub returns-in-Ok-clause-ends : goal.returns-in-Ok-clause-ends
returns-in-Ok-clause-ends g c = λ text due out put.
    let err = change_of g.E.Sink.written g.E.Sink.faults c.args.err.now c.args.err.now in
    put_whole Gprs text due out err c.args.put c.in-Ok.status put c.in-Ok.is refl

pub returns-in-Err-clause-ends : goal.returns-in-Err-clause-ends
returns-in-Err-clause-ends g c = λ text due out put.
    let err = change_of g.E.Sink.written g.E.Sink.faults c.args.err.now c.stop_by-status.new.err in
    put_stopped Gprs text due out err c.args.put c.in-Err.fault c.stop_by-status.result put c.in-Err.is c.stop_by-status.ensures
