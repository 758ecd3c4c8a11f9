use Rattle.std.proofs.Common.{◌∙◌, length, subst}
use Rattle.call_cases.specs.meaning.Answers.{change_of}
use Rattle.call_cases.specs.meaning.PlainText.{plain_ran, restarts_in}
use Rattle.call_cases.specs.meaning.RunCommands.{end_status}
use Rattle.call_cases.specs.meaning.Texts.{run_text}
use Rattle.call_cases.specs.Answers.{PutFor}
use Rattle.call_cases.specs.Decided.{work_of}
use Rattle.batch_calls.proofs.Untold.{put_alone}
use Rattle.batch_calls.proofs.crews.put_one_rechecked.Goals as goal

pub returns : goal.returns
returns g c =
    let out = change_of g.O.Sink.written g.O.Sink.faults c.args.out.now c.put_untold-put.new.out in
    put_alone (work_of c.args.request) out c.put_untold-put.result
    (subst (λ work. PutFor (run_text (plain_ran work) (restarts_in work) (length work.faults)) (end_status (plain_ran work).end)
    out c.put_untold-put.result)
    (c.in-Ok.ensures.work ∙ c.without_faults.ensures.work) c.put_untold-put.ensures)
