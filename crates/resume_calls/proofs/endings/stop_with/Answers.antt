use Rattle.std.proofs.Common.{sym, subst}
use Rattle.call_cases.specs.meaning.Answers.{change_of}
use Rattle.resume_calls.specs.inner.Resting.{StopsSo}
use Rattle.resume_calls.proofs.endings.stop_with.Goals as goal

pub returns-in-WriteFault : goal.returns-in-WriteFault
returns-in-WriteFault g c =
    let err = change_of g.E.Sink.written g.E.Sink.faults c.args.err.now c.tell_line.new.err in
    subst (λ stop. StopsSo c.args.log.now stop err c.tell_line.result) (sym c.in-WriteFault.is) c.tell_line.ensures
