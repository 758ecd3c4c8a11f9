use Rattle.std.proofs.Common.{◌≡◌, ap, sym, subst}
use Rattle.command_line.specs.meaning.Words.{texts}
use Rattle.command_line.specs.meaning.LogWords.{log_by}
use Rattle.command_line.proofs.KeepsNoLog.{log_asks}
use Rattle.call_cases.specs.meaning.Answers.{change_of}
use Rattle.call_cases.specs.meaning.Headline.{ReadsNothing}
use Rattle.call_cases.specs.meaning.RunCommands.{commands}
use Rattle.batch_calls.proofs.Answered.{log_headed, log_refused}
use Rattle.batch_calls.proofs.log.log_rechecked.Goals as goal

pub returns-in-Ok-clause-headline : goal.returns-in-Ok-clause-headline
returns-in-Ok-clause-headline g c =
    let words = texts c.args.words.now in
    log_headed log_by words (g.H.Shelf.files c.args.shelf.now) (g.H.Shelf.failed c.args.shelf.now)
    (g.H.Shelf.failed c.read_by.new.shelf) (c.read_by.new.shelf ≡ c.args.shelf.now)
    (change_of g.O.Sink.written g.O.Sink.faults c.args.out.now c.carry_out.new.out)
    (change_of g.E.Sink.written g.E.Sink.faults c.args.err.now c.carry_out.new.err)
    c.carry_out.result.0.status c.carry_out.result.0.journal c.in-Ok.request
    (c.in-Ok.ensures.answers log_by words c.read_log_words.ensures.asked) c.carry_out.ensures (log_asks words)

pub returns-in-Err-clause-headline : goal.returns-in-Err-clause-headline
returns-in-Err-clause-headline g c =
    let words = texts c.args.words.now in
    log_refused log_by words (g.H.Shelf.files c.args.shelf.now) (g.H.Shelf.failed c.args.shelf.now)
    (g.H.Shelf.failed c.read_by.new.shelf) (c.read_by.new.shelf ≡ c.args.shelf.now)
    (g.O.Sink.written c.args.out.now) (g.O.Sink.faults c.args.out.now)
    (change_of g.E.Sink.written g.E.Sink.faults c.args.err.now c.refused_outcome.new.err)
    c.refused_outcome.result.status c.refused_outcome.result.journal c.in-Err.refusal
    (c.in-Err.ensures.answers log_by words c.read_log_words.ensures.asked) (ap g.H.Shelf.failed) c.refused_outcome.ensures.empty
    c.refused_outcome.ensures.ends

pub returns-in-Ok-clause-unread : goal.returns-in-Ok-clause-unread
returns-in-Ok-clause-unread g c = λ none.
    (c.in-Ok.ensures.answers log_by (texts c.args.words.now) c.read_log_words.ensures.asked).unread
    (subst (ReadsNothing commands) (sym none) tt)

pub returns-in-Err-clause-unread : goal.returns-in-Err-clause-unread
returns-in-Err-clause-unread g c = λ none.
    (c.in-Err.ensures.answers log_by (texts c.args.words.now) c.read_log_words.ensures.asked).unread
    (subst (ReadsNothing commands) (sym none) tt)
