use Rattle.std.proofs.Common.{◌≡◌, ap, true}
use Rattle.command_line.specs.meaning.Words.{texts, asked_waiting}
use Rattle.command_line.proofs.KeepsNoLog.{words_keep_none}
use Rattle.call_cases.specs.meaning.Answers.{change_of}
use Rattle.batch_calls.proofs.Answered.{run_headed, run_refused}
use Rattle.batch_calls.proofs.waiting.gprs_run_pipe.Goals as goal

pub returns-in-Ok-clause-headline : goal.returns-in-Ok-clause-headline
returns-in-Ok-clause-headline g c =
    let words = texts c.args.words.now in
    run_headed asked_waiting words (g.H.Shelf.files c.args.shelf.now) (g.H.Shelf.failed c.args.shelf.now)
    (g.H.Shelf.failed c.read_by.new.shelf) (c.read_by.new.shelf ≡ c.args.shelf.now)
    (change_of g.O.Sink.written g.O.Sink.faults c.args.out.now c.carry_waiting.new.out)
    (change_of g.E.Sink.written g.E.Sink.faults c.args.err.now c.carry_waiting.new.err)
    c.carry_waiting.result.status c.carry_waiting.result.journal c.in-Ok.request
    (c.in-Ok.ensures.answers asked_waiting words c.read_waiting_words.ensures.asked) c.carry_waiting.ensures (words_keep_none true words)

pub returns-in-Err-clause-headline : goal.returns-in-Err-clause-headline
returns-in-Err-clause-headline g c =
    let words = texts c.args.words.now in
    run_refused asked_waiting words (g.H.Shelf.files c.args.shelf.now) (g.H.Shelf.failed c.args.shelf.now)
    (g.H.Shelf.failed c.read_by.new.shelf) (c.read_by.new.shelf ≡ c.args.shelf.now)
    (g.O.Sink.written c.args.out.now) (g.O.Sink.faults c.args.out.now)
    (change_of g.E.Sink.written g.E.Sink.faults c.args.err.now c.refused_outcome.new.err)
    c.refused_outcome.result.status c.refused_outcome.result.journal c.in-Err.refusal
    (c.in-Err.ensures.answers asked_waiting words c.read_waiting_words.ensures.asked) (ap g.H.Shelf.failed) c.refused_outcome.ensures.empty
    c.refused_outcome.ensures.ends

pub returns-in-Ok-clause-unread : goal.returns-in-Ok-clause-unread
returns-in-Ok-clause-unread g c =
    (c.in-Ok.ensures.answers asked_waiting (texts c.args.words.now) c.read_waiting_words.ensures.asked).unread

pub returns-in-Err-clause-unread : goal.returns-in-Err-clause-unread
returns-in-Err-clause-unread g c =
    (c.in-Err.ensures.answers asked_waiting (texts c.args.words.now) c.read_waiting_words.ensures.asked).unread
