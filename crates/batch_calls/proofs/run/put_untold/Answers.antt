use Rattle.std.proofs.Common.{length}
use Rattle.call_cases.specs.meaning.Answers.{change_of}
use Rattle.call_cases.specs.meaning.PlainText.{plain_ran, restarts_in}
use Rattle.call_cases.specs.meaning.Texts.{run_text}
use Rattle.batch_calls.specs.inner.Planned.{work_planned}
use Rattle.batch_calls.proofs.Untold.{put_to_end, put_to_stop}
use Rattle.batch_calls.proofs.run.put_untold.Goals as goal

pub returns-in-Ok : goal.returns-in-Ok
returns-in-Ok g c =
    let work = work_planned c.args.basis.now.plan.now c.args.begins in
    let out = change_of g.O.Sink.written g.O.Sink.faults c.args.out.now c.put_run-ran.new.out in
    put_to_end work (run_text (plain_ran work) (restarts_in work) (length work.faults)) out c.put_run-ran.result c.in-Ok.report
    c.end_status.result c.in-Ok.is c.end_status.ensures c.put_run-ran.ensures

pub returns-in-Err : goal.returns-in-Err
returns-in-Err g c =
    let work = work_planned c.args.basis.now.plan.now c.args.begins in
    let out = change_of g.O.Sink.written g.O.Sink.faults c.args.out.now c.put_run-ran.new.out in
    put_to_stop work (run_text (plain_ran work) (restarts_in work) (length work.faults)) out c.put_run-ran.result c.in-Err.stop
    c.fault_of.result c.in-Err.is c.fault_of.ensures c.put_run-ran.ensures
