use Rattle.std.proofs.Common.{Err, sym, subst, ◌∙◌, ap}
use Rattle.std.proofs.lemmas.Result.{err_from_is_err_and}
use Rattle.call_cases.specs.meaning.Answers.{change_of}
use Rattle.call_cases.specs.Decided.{program_in}
use Rattle.resume_calls.specs.inner.Resting.{Resumes}
use Rattle.resume_calls.proofs.Pieces.{unbegun}
use Rattle.resume_calls.proofs.waves.put_resumed.Goals as goal

pub returns-in_err-work : goal.returns-in_err-work
returns-in_err-work g c =
    let request = c.args.request in
    let stopped = err_from_is_err_and c.from_residual.result c.from_residual.ensures.1 in
    subst (Resumes (program_in request) request.inputs request.asked.limits c.args.log.now
    (change_of g.O.Sink.written g.O.Sink.faults c.args.out.now c.args.out.now)) (sym (stopped.1 ∙ ap Err stopped.2))
    (unbegun (program_in request) request.inputs request.asked.limits c.args.log.now (g.O.Sink.written c.args.out.now)
    (g.O.Sink.faults c.args.out.now))
