use Rattle.std.proofs.Common.{ap}
use Rattle.command_line.specs.meaning.Words.{texts}
use Rattle.call_cases.specs.meaning.Answers.{change_of}
use Rattle.call_cases.specs.Decided.{program_in, files_read, work_of}
use Rattle.explain_calls.proofs.Explaining.{run_explains, refusal_explains}
use Rattle.explain_calls.proofs.top.explain_run.Goals as goal

pub returns-in-Ok-clause-explains : goal.returns-in-Ok-clause-explains
returns-in-Ok-clause-explains g c =
    let request = c.in-Ok.read.request in
    run_explains (texts c.args.words.now) (g.H.Shelf.files c.args.shelf.now) (g.H.Shelf.failed c.args.shelf.now)
    (g.H.Shelf.failed c.read_explained.new.shelf)
    (change_of g.O.Sink.written g.O.Sink.faults c.args.out.now c.tell_run.new.out)
    (change_of g.E.Sink.written g.E.Sink.faults c.args.err.now c.tell_run.new.err)
    (files_read request.asked (program_in request)) (work_of request) request.asked c.tell_run.result c.in-Ok.ensures.asked
    c.in-Ok.ensures.case c.in-Ok.ensures.shelf c.tell_run.ensures

pub returns-in-Err-clause-explains : goal.returns-in-Err-clause-explains
returns-in-Err-clause-explains g c =
    refusal_explains (texts c.args.words.now) (g.H.Shelf.files c.args.shelf.now) (g.H.Shelf.failed c.args.shelf.now)
    (g.H.Shelf.failed c.read_explained.new.shelf)
    (change_of g.O.Sink.written g.O.Sink.faults c.args.out.now c.tell_refusal.new.out)
    (change_of g.E.Sink.written g.E.Sink.faults c.args.err.now c.tell_refusal.new.err)
    c.in-Err.explained.refusal c.in-Err.explained.text c.tell_refusal.result c.in-Err.ensures.text c.in-Err.ensures.no_command
    (λ none. ap g.H.Shelf.failed (c.in-Err.ensures.unread none)) c.in-Err.ensures.case c.in-Err.ensures.shelf c.tell_refusal.ensures
