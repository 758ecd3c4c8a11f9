use Rattle.std.proofs.Common.{sym, subst}
use Rattle.call_cases.specs.meaning.Answers.{change_of}
use Rattle.call_cases.specs.Answers.{StopsBy}
use Rattle.call_cases.proofs.endings.stop_by.Goals as goal

pub returns-in-Failed : goal.returns-in-Failed
returns-in-Failed g c =
    let err = change_of g.E.Sink.written g.E.Sink.faults c.args.err.now c.tell_line.new.err in
    subst (λ fault. StopsBy c.args.tool fault err c.tell_line.result) (sym c.in-Failed.is) c.tell_line.ensures
