use Rattle.std.proofs.Common.{refl, subst, length}
use Rattle.call_cases.specs.meaning.Answers.{change_of}
use Rattle.call_cases.specs.meaning.PlainText.{plain_ran, restarts_in}
use Rattle.call_cases.specs.meaning.Texts.{run_text, run_soak}
use Rattle.batch_calls.specs.inner.Planned.{work_planned}
use Rattle.batch_calls.specs.inner.Ways.{Writes}
use Rattle.batch_calls.proofs.Ways.{writes_lines, lines_carried, summary_carried, log_carried}
use Rattle.batch_calls.proofs.run.carry_by.Goals as goal

pub put_run-ran-requires-clause-lines : goal.put_run-ran-requires-clause-lines
put_run-ran-requires-clause-lines g c lifetimes within =
    let asked = c.args.basis.now.plan.now.asked in
    writes_lines asked.command (subst (Writes asked.command) c.in-Lines.is c.requires.writes)

pub returns-in-Lines : goal.returns-in-Lines
returns-in-Lines g c =
    let asked = c.args.basis.now.plan.now.asked in
    let work = work_planned c.args.basis.now.plan.now c.args.begins in
    let out = change_of g.O.Sink.written g.O.Sink.faults c.args.out.now c.put_run-ran.new.out in
    lines_carried asked work refl out (change_of g.E.Sink.written g.E.Sink.faults c.args.err.now c.outcome_of.new.err)
    c.outcome_of.result.status c.outcome_of.result.journal (subst (Writes asked.command) c.in-Lines.is c.requires.writes)
    (c.outcome_of.ensures work (run_text (plain_ran work) (restarts_in work) (length work.faults)) out c.put_run-ran.ensures)

pub put_soak-ran-requires-clause-run : goal.put_soak-ran-requires-clause-run
put_soak-ran-requires-clause-run g c lifetimes within =
    subst (Writes c.args.basis.now.plan.now.asked.command) c.in-Summary.is c.requires.writes

pub returns-in-Summary : goal.returns-in-Summary
returns-in-Summary g c =
    let asked = c.args.basis.now.plan.now.asked in
    let work = work_planned c.args.basis.now.plan.now c.args.begins in
    let soak = c.in-Summary.soak in
    let out = change_of g.O.Sink.written g.O.Sink.faults c.args.out.now c.put_soak-ran.new.out in
    summary_carried asked work refl out (change_of g.E.Sink.written g.E.Sink.faults c.args.err.now c.outcome_of-in-Summary.new.err)
    c.outcome_of-in-Summary.result.status c.outcome_of-in-Summary.result.journal soak
    (subst (Writes asked.command) c.in-Summary.is c.requires.writes)
    (c.outcome_of-in-Summary.ensures work (run_soak soak (plain_ran work) (restarts_in work) (length work.faults)) out
    c.put_soak-ran.ensures)

pub put_logged-ran-requires-clause-run : goal.put_logged-ran-requires-clause-run
put_logged-ran-requires-clause-run g c lifetimes within =
    subst (Writes c.args.basis.now.plan.now.asked.command) c.in-LinesAndLog.is c.requires.writes

pub returns-in-LinesAndLog : goal.returns-in-LinesAndLog
returns-in-LinesAndLog g c =
    let asked = c.args.basis.now.plan.now.asked in
    let work = work_planned c.args.basis.now.plan.now c.args.begins in
    let out = change_of g.O.Sink.written g.O.Sink.faults c.args.out.now c.put_logged-ran.new.out in
    let err = change_of g.E.Sink.written g.E.Sink.faults c.args.err.now c.put_logged-ran.new.log in
    log_carried asked work refl out err c.outcome_logged.result.status c.outcome_logged.result.journal
    (subst (Writes asked.command) c.in-LinesAndLog.is c.requires.writes)
    (c.outcome_logged.ensures work (run_text (plain_ran work) (restarts_in work) (length work.faults)) out err
    c.put_logged-ran.ensures.text c.put_logged-ran.ensures.log)
