use Rattle.std.proofs.Common.{[], if◌then◌else◌}
use Rattle.restart_log.specs.meaning.Trace.{trace_text}
use Rattle.call_cases.specs.meaning.Answers.{change_of}
use Rattle.batch_calls.proofs.RunEnds.{ran_to_end, ran_to_stop}
use Rattle.batch_calls.proofs.run.outcome_of.Goals as goal

pub returns-in-Ok : goal.returns-in-Ok
returns-in-Ok g c = λ work text out ran.
    let journal = c.in-Ok.report.journal in
    let err = change_of g.E.Sink.written g.E.Sink.faults c.args.err.now c.put_trace-status.new.err in
    ran_to_end work text (if c.args.is_traced then trace_text journal else []) out err c.put_trace-status.result c.args.ran c.in-Ok.report
    c.end_status-due.result c.in-Ok.is c.end_status-due.ensures ran c.put_trace-status.ensures

pub returns-in-Err : goal.returns-in-Err
returns-in-Err g c = λ work text out ran.
    let journal = c.in-Err.stop.journal in
    let err = change_of g.E.Sink.written g.E.Sink.faults c.args.err.now c.stop_with-status.new.err in
    ran_to_stop work text (if c.args.is_traced then trace_text journal else []) out err c.stop_with-status.result c.args.ran c.in-Err.stop
    c.in-Err.is ran c.stop_with-status.ensures
