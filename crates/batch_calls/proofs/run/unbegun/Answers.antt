use Rattle.call_cases.specs.meaning.Answers.{change_of}
use Rattle.batch_calls.proofs.RunEnds.{unbegun_carries}
use Rattle.batch_calls.proofs.run.unbegun.Goals as goal

pub returns : goal.returns
returns g c = λ asked work written faults.
    let err = change_of g.E.Sink.written g.E.Sink.faults c.args.err.now c.tell_line-status.new.err in
    unbegun_carries asked work written faults err c.tell_line-status.result c.empty_journal.result c.empty_journal.ensures
    c.tell_line-status.ensures
