use Rattle.std.proofs.Common.{subst}
use Rattle.std.specs.Prelude.{ℕ, List, Option, Result}
use Rattle.task_ast.specs.View.{plain_program}
use Rattle.lock_checker.specs.Accepted.{program_of}
use Rattle.reorder_list.specs.declared.report.Report.{Report}
use Rattle.subthread.specs.Tasks.{program_in}
use Rattle.gp_resume.specs.declared.stop.ResumeStop.{ResumeStop}
use Rattle.gp_resume.specs.Resuming.{DrivesRest}
use Rattle.resume_calls.proofs.Pieces.{without_first, without_lines, without_tail, with_tail}
use Rattle.resume_calls.proofs.rest.put_rest.Goals as goal
use Rattle.resume_calls.proofs.rest.put_rest.Goals.{In-Ok}

-- what the run left that went on, by the program that was accepted
drove : (g : _) (c : In-Ok g) (lines : Option (List ℕ)) (faults : ℕ) (posted : List (ℕ × ℕ)) (result : Result (ℕ × Report) ResumeStop)
    → DrivesRest (program_in c.args.paced.work.now) c.args.plan.opening.inputs c.args.plan.opening.limits c.args.log.now
    (g.O.Sink.written c.put_first.new.out) lines (g.O.Sink.faults c.put_first.new.out) faults posted result
    → DrivesRest (plain_program (program_of c.args.plan.checked)) c.args.plan.opening.inputs c.args.plan.opening.limits c.args.log.now
    (g.O.Sink.written c.put_first.new.out) lines (g.O.Sink.faults c.put_first.new.out) faults posted result
drove g c lines faults posted result =
    subst (λ program. DrivesRest program c.args.plan.opening.inputs c.args.plan.opening.limits c.args.log.now
    (g.O.Sink.written c.put_first.new.out) lines (g.O.Sink.faults c.put_first.new.out) faults posted result) c.requires.planned.program_is

pub returns-in-Err : goal.returns-in-Err
returns-in-Err g c = without_first _ _ _ _ _ _ _ _ c.in-Err.stop c.in-Err.ensures

pub returns-in-Err-resume_paced : goal.returns-in-Err-resume_paced
returns-in-Err-resume_paced g c =
    let at = (goal.at.returns-in-Err-resume_paced g c).In-Ok in
    without_lines _ _ _ _ _ _ _ _ _ _ _ c.in-Ok.ensures c.in-Err-resume_paced.stop (drove g at _ _ _ _ c.in-Err-resume_paced.ensures)

pub returns-in-Ok-put_tail : goal.returns-in-Ok-put_tail
returns-in-Ok-put_tail g c =
    let at = (goal.at.returns-in-Ok-put_tail g c).In-Ok in
    with_tail _ _ _ _ _ _ _ _ _ _ _ c.in-Ok.ensures _ _ _ _ (drove g at _ _ _ _ c.in-Ok-resume_paced.ensures) c.end_status.result
    c.end_status.ensures c.in-Ok-put_tail.ensures

pub returns : goal.returns
returns g c =
    let at = (goal.at.returns g c).In-Ok in
    without_tail _ _ _ _ _ _ _ _ _ _ _ c.in-Ok.ensures _ _ _ _ (drove g at _ _ _ _ c.in-Ok-resume_paced.ensures)
    c.in-Err-put_tail.stop c.in-Err-put_tail.ensures
