use Rattle.std.proofs.Common.{◌≡◌, ap, false, Ok, Err}
use Rattle.command_line.specs.meaning.Words.{texts, asked_by}
use Rattle.command_line.proofs.KeepsNoLog.{words_keep_none}
use Rattle.call_cases.specs.meaning.Answers.{change_of}
use Rattle.batch_calls.specs.inner.Reading.{Answers}
use Rattle.batch_calls.proofs.Answered.{run_headed, run_refused}
use Rattle.batch_calls.proofs.Runs.{runs_batch}
use Rattle.batch_calls.proofs.top.gprs_run.Goals as goal

pub returns-in-Ok-clause-headline : goal.returns-in-Ok-clause-headline
returns-in-Ok-clause-headline g c =
    let words = texts c.args.words.now in
    let files = g.H.Shelf.files c.args.shelf.now in
    let failed = g.H.Shelf.failed c.args.shelf.now in
    let failed' = g.H.Shelf.failed c.read_request.new.shelf in
    let kept = c.read_request.new.shelf ≡ c.args.shelf.now in
    let read = c.in-Ok.ensures in
    let answers : Answers asked_by words files failed failed' kept (Ok c.in-Ok.request) = record {
      no_command = read.no_command;
      unread = read.unread;
      shelf = read.shelf;
      case = read.case;
      asked = read.asked;
    } in
    run_headed asked_by words files failed failed' kept
    (change_of g.O.Sink.written g.O.Sink.faults c.args.out.now c.carry_out.new.out)
    (change_of g.E.Sink.written g.E.Sink.faults c.args.err.now c.carry_out.new.err)
    c.carry_out.result.0.status c.carry_out.result.0.journal c.in-Ok.request answers c.carry_out.ensures (words_keep_none false words)

pub returns-in-Err-clause-headline : goal.returns-in-Err-clause-headline
returns-in-Err-clause-headline g c =
    let words = texts c.args.words.now in
    let files = g.H.Shelf.files c.args.shelf.now in
    let failed = g.H.Shelf.failed c.args.shelf.now in
    let failed' = g.H.Shelf.failed c.read_request.new.shelf in
    let kept = c.read_request.new.shelf ≡ c.args.shelf.now in
    let read = c.in-Err.ensures in
    let answers : Answers asked_by words files failed failed' kept (Err c.in-Err.refusal) = record {
      no_command = read.no_command;
      unread = read.unread;
      shelf = read.shelf;
      case = read.case;
      asked = read.asked;
    } in
    run_refused asked_by words files failed failed' kept (g.O.Sink.written c.args.out.now) (g.O.Sink.faults c.args.out.now)
    (change_of g.E.Sink.written g.E.Sink.faults c.args.err.now c.refused_outcome.new.err)
    c.refused_outcome.result.status c.refused_outcome.result.journal c.in-Err.refusal answers (ap g.H.Shelf.failed)
    c.refused_outcome.ensures.empty c.refused_outcome.ensures.ends

pub returns-in-Ok-clause-run : goal.returns-in-Ok-clause-run
returns-in-Ok-clause-run g c = runs_batch _ (returns-in-Ok-clause-headline g c)

pub returns-in-Err-clause-run : goal.returns-in-Err-clause-run
returns-in-Err-clause-run g c = runs_batch _ (returns-in-Err-clause-headline g c)
