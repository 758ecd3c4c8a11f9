use Rattle.std.proofs.Common.{ap, refl}
use Rattle.gp_audit.specs.meaning.Answer.{verdict_text, verdict_status}
use Rattle.command_line.specs.meaning.Words.{texts}
use Rattle.call_cases.specs.meaning.Answers.{change_of}
use Rattle.call_cases.proofs.Headlines.{run_headline, refused_headline}
use Rattle.audit_calls.specs.meaning.AuditCommands.{commands}
use Rattle.audit_calls.specs.inner.Trials.{audited_in, files_tried, tried_in}
use Rattle.audit_calls.proofs.Sound.{commands_sound}
use Rattle.audit_calls.proofs.SomeJudge.{some_judge}
use Rattle.audit_calls.proofs.TrialCases.{nothing_read}
use Rattle.audit_calls.proofs.top.audit_run.Goals as goal

pub returns-in-Ok-clause-headline : goal.returns-in-Ok-clause-headline
returns-in-Ok-clause-headline g c =
    let trial = c.in-Ok.trial in
    let tried = tried_in some_judge trial in
    let out = change_of g.O.Sink.written g.O.Sink.faults c.args.out.now c.put_verdict-put.new.out in
    let err = change_of g.E.Sink.written g.E.Sink.faults c.args.err.now c.plain_outcome.new.err in
    run_headline commands commands_sound (texts c.args.words.now) (g.H.Shelf.files c.args.shelf.now)
    (g.H.Shelf.failed c.args.shelf.now) (g.H.Shelf.failed c.read_trial.new.shelf) out err
    c.plain_outcome.result.status c.plain_outcome.result.journal (files_tried trial) tried (audited_in trial)
    refl c.in-Ok.ensures.audited (c.in-Ok.ensures.case some_judge) c.in-Ok.ensures.shelf
    (λ none. c.plain_outcome.ensures.empty) (λ begins. cc begins)
    (c.plain_outcome.ensures.ends (verdict_text tried) (verdict_status tried) out (c.put_verdict-put.ensures some_judge))

pub returns-in-Err-clause-headline : goal.returns-in-Err-clause-headline
returns-in-Err-clause-headline g c =
    let err = change_of g.E.Sink.written g.E.Sink.faults c.args.err.now c.refused_outcome.new.err in
    refused_headline commands commands_sound (texts c.args.words.now) (g.H.Shelf.files c.args.shelf.now)
    (g.H.Shelf.failed c.args.shelf.now) (g.H.Shelf.failed c.read_trial.new.shelf)
    (g.O.Sink.written c.args.out.now) (g.O.Sink.faults c.args.out.now) err c.refused_outcome.result.status
    c.refused_outcome.result.journal c.in-Err.refusal
    c.in-Err.ensures.no_command (nothing_read (texts c.args.words.now) (λ none. ap g.H.Shelf.failed (c.in-Err.ensures.unread none)))
    (c.in-Err.ensures.case some_judge) c.in-Err.ensures.shelf
    c.refused_outcome.ensures.empty c.refused_outcome.ensures.ends
