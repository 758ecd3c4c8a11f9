use Rattle.std.proofs.Common.{ap}
use Rattle.command_line.specs.meaning.Words.{texts}
use Rattle.call_cases.specs.meaning.Answers.{change_of}
use Rattle.call_cases.proofs.Headlines.{refused_headline}
use Rattle.resume_calls.specs.meaning.ResumeCommands.{commands}
use Rattle.resume_calls.proofs.Sound.{commands_sound}
use Rattle.resume_calls.proofs.Ends.{rest_headline}
use Rattle.resume_calls.proofs.Readers.{some_reader}
use Rattle.resume_calls.proofs.HaltedCases.{nothing_read}
use Rattle.gp_resume.proofs.LogAnswers.{one-answer}
use Rattle.resume_calls.proofs.top.resume_run.Goals as goal

pub returns-in-Ok-clause-headline : goal.returns-in-Ok-clause-headline
returns-in-Ok-clause-headline g c =
    let halted = c.in-Ok.halted in
    let out = change_of g.O.Sink.written g.O.Sink.faults c.args.out.now c.go_on.new.out in
    let err = change_of g.E.Sink.written g.E.Sink.faults c.args.err.now c.go_on.new.err in
    rest_headline one-answer some_reader (texts c.args.words.now) (g.H.Shelf.files c.args.shelf.now) (g.H.Shelf.failed c.args.shelf.now)
    (g.H.Shelf.failed c.read_halted.new.shelf) out err
    c.go_on.result.status c.go_on.result.journal halted c.in-Ok.ensures.resumed c.in-Ok.ensures.shelf c.go_on.ensures.empty
    (c.in-Ok.ensures.case some_reader) c.go_on.ensures.ends

pub returns-in-Err-clause-headline : goal.returns-in-Err-clause-headline
returns-in-Err-clause-headline g c =
    let err = change_of g.E.Sink.written g.E.Sink.faults c.args.err.now c.refused_outcome.new.err in
    refused_headline commands commands_sound (texts c.args.words.now) (g.H.Shelf.files c.args.shelf.now)
    (g.H.Shelf.failed c.args.shelf.now) (g.H.Shelf.failed c.read_halted.new.shelf)
    (g.O.Sink.written c.args.out.now) (g.O.Sink.faults c.args.out.now) err c.refused_outcome.result.status
    c.refused_outcome.result.journal c.in-Err.refusal
    c.in-Err.ensures.no_command (nothing_read (texts c.args.words.now) (λ none. ap g.H.Shelf.failed (c.in-Err.ensures.unread none)))
    (c.in-Err.ensures.case some_reader) c.in-Err.ensures.shelf
    c.refused_outcome.ensures.empty c.refused_outcome.ensures.ends
