-- A run over a journal that is not told: that of a program on one thread, whose faults are left out.
use Rattle.std.proofs.Common.{◌≡◌, ◌+◌, ℕ, zero, suc, Bool, true, false, cond, List, [], refl, sym, ap, ◌∙◌, subst}
use Rattle.std.specs.Prelude.{Option, None, Result, length}
use Rattle.std.specs.declared.result.Result.TheVariants.{Ok, Err}
use Rattle.gp_base.specs.declared.sink.SinkFault.{SinkFault}
use Rattle.gp_base.specs.declared.sink.SinkFault.TheVariants.{Failed}
use Rattle.dependence.specs.meaning.Restarts.{Dependence, Progress, progress, advance_by, struck_next, drains}
use Rattle.reorder_list.specs.declared.report.Report.{Report}
use Rattle.reorder_list.specs.declared.report.EngineStop.{EngineStop}
use Rattle.reorder_list.specs.declared.report.StopWhy.{StopWhy}
use Rattle.reorder_list.specs.declared.report.StopWhy.TheVariants.{WriteFault}
use Rattle.reorder_list.specs.declared.report.StopWhy.TheVariants as why
use Rattle.command_line.specs.declared.asked.Command.TheVariants.{One}
use Rattle.call_cases.specs.meaning.Work.{ToDo}
use Rattle.call_cases.specs.meaning.PlainText.{plain_ran, restarts_in}
use Rattle.call_cases.specs.meaning.Recovering.{recovering_by}
use Rattle.call_cases.specs.meaning.RunCommands.{end_status, work_text, work_status}
use Rattle.call_cases.specs.meaning.Texts.{run_text}
use Rattle.call_cases.specs.meaning.Answers.{Change}
use Rattle.call_cases.specs.Answers.{PutFor}
use Rattle.batch_calls.specs.inner.Planned.{without_faults}
use Rattle.batch_calls.specs.inner.Ran.{RanFor, fault_of}
use Rattle.task_ast.specs.meaning.Run.{plain_order}

-- no fault makes a restart
none_struck : (dependence : Dependence) (at : Progress) → struck_next dependence [] at ≡ None
none_struck dependence at = same None (drains dependence at.front)
  where
    same : (x : Option ℕ) (b : Bool) → cond b x x ≡ x
    same x true = refl
    same x false = refl

none_made : (dependence : Dependence) (steps : ℕ) → (progress dependence [] steps).made ≡ []
none_made dependence zero = refl
none_made dependence (suc steps) =
    ap (λ struck. (advance_by dependence (progress dependence [] steps) struck).made) (none_struck dependence (progress dependence [] steps))
    ∙ none_made dependence steps

pub none_restarted : (work : ToDo) → restarts_in (without_faults work) ≡ []
unfolding restarts_in
none_restarted work =
    let dependence = recovering_by work.command (plain_order work.program work.inputs work.limits) in
    none_made dependence (dependence.count + 0)

pub same_ran : (work : ToDo) → plain_ran (without_faults work) ≡ plain_ran work
unfolding plain_ran
same_ran work = refl

-- what such a run puts is the text of a run on one thread
pub put_alone : (work : ToDo) (out : Change) (put : Result ℕ SinkFault)
    → PutFor (run_text (plain_ran (without_faults work)) (restarts_in (without_faults work)) (length (without_faults work).faults))
    (end_status (plain_ran (without_faults work)).end) out put
    → PutFor (work_text One work) (work_status One work) out put
put_alone work out put is =
    subst (λ restarts. PutFor (run_text (plain_ran work) restarts 0) (end_status (plain_ran work).end) out put) (none_restarted work)
    (subst (λ ran. PutFor (run_text ran (restarts_in (without_faults work)) 0) (end_status ran.end) out put) (same_ran work) is)

-- what was put is what a run wrote, and its status
module _ (work : ToDo) (text : List ℕ) (out : Change) where
  pub put_to_end : (ran : Result Report EngineStop) (report : Report) (status : ℕ) → ran ≡ Ok report → status ≡ end_status report.end
      → RanFor work text out ran → PutFor text (end_status (plain_ran work).end) out (Ok status)
  put_to_end ran report status ok is went =
      let here = subst (RanFor work text out) ok went in
      record { status = is ∙ ap end_status here.report.end; all = here.all; part = tt; cause = tt }

  pub put_to_stop : (ran : Result Report EngineStop) (stop : EngineStop) (fault : SinkFault) → ran ≡ Err stop → fault ≡ fault_of stop.why
      → RanFor work text out ran → PutFor text (end_status (plain_ran work).end) out (Err fault)
  put_to_stop ran stop fault failed is went = record {
    status = tt;
    all = tt;
    part = here.part;
    cause = λ same. here.cause (go stop.why (sym is ∙ same));
  }
    where
      here : RanFor work text out (Err stop)
      here = subst (RanFor work text out) failed went

      go : (w : StopWhy) → fault_of w ≡ Failed → w ≡ WriteFault
      go WriteFault same = refl
      go why.OutOfMemory same = absurd (cc)
