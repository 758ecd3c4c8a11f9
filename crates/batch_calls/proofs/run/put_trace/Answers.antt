use Rattle.restart_log.specs.meaning.Trace.{trace_text}
use Rattle.call_cases.specs.meaning.Answers.{change_of}
use Rattle.std.proofs.Common.{inl, inr, refl, sym, [], if◌then◌else◌, subst}
use Rattle.batch_calls.proofs.RunEnds.{untraced}
use Rattle.batch_calls.proofs.run.put_trace.Goals as goal

pub returns-then-not-is_traced : goal.returns-then-not-is_traced
returns-then-not-is_traced g c =
    let err = change_of g.E.Sink.written g.E.Sink.faults c.args.err.now c.args.err.now in
    untraced c.args.due c.args.is_traced (trace_text c.args.journal.now) err c.if-not-is_traced.true refl

pub returns-in-Err : goal.returns-in-Err
returns-in-Err g c = inr c.tell_line.ensures
