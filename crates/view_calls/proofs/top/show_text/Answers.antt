use Rattle.std.proofs.Common.{ap, refl, sym, ◌∙◌, Err}
use Rattle.call_cases.specs.meaning.Answers.{change_of}
use Rattle.view_calls.proofs.Showing.{shown_ends, absent_ends, stopped_ends}
use Rattle.view_calls.proofs.top.show_text.Goals as goal

pub returns-in-Ok-None : goal.returns-in-Ok-None
returns-in-Ok-None g c =
    shown_ends c.args.view.now c.args.position _ (change_of g.E.Sink.written g.E.Sink.faults c.args.err.now c.args.err.now)
    (sym c.in-Ok-None.ensures.absent ∙ c.in-Ok-None.field-0-is) c.in-Ok-None.ensures.all refl

pub returns-in-Ok-Some : goal.returns-in-Ok-Some
returns-in-Ok-Some g c =
    absent_ends c.args.view.now c.args.position _ _ _ _
    (sym c.in-Ok-Some.ensures.absent ∙ c.in-Ok-Some.field-0-is) c.in-Ok-Some.ensures.all c.end_no_position.ensures

pub returns-in-Err : goal.returns-in-Err
returns-in-Err g c =
    stopped_ends c.args.view.now c.args.position _ _ c.in-Err.fault _ c.in-Err.ensures.prefix
    (λ is. c.in-Err.ensures.cause.failed (ap Err is)) c.stop_by.ensures
