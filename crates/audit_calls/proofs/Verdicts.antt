-- The verdict that the code gives is that of each judge.
use Rattle.std.proofs.Common.{◌≡◌, ◌<◌, ◌≤◌, ℕ, List, length, map, sym, ap, subst, ◌∙◌, arith}
use Rattle.std.specs.declared.option.Option.{Option}
use Rattle.std.specs.declared.result.Result.{Result}
use Rattle.std.specs.declared.result.Result.TheVariants.{Err}
use Rattle.std.proofs.lemmas.List.{length-map}
use Rattle.gp_base.specs.declared.feed.Inputs.{Inputs}
use Rattle.gp_base.specs.declared.limits.Limits.{Limits}
use Rattle.gp_base.specs.declared.limits.TheConstants.{MOST_SUBTHREADS}
use Rattle.gp_base.specs.declared.sink.SinkFault.{SinkFault}
use Rattle.gp_base.specs.declared.sink.SinkFault.TheVariants.{Failed, OutOfMemory}
use Rattle.gp_base.proofs.Written.{prefix_none}
use Rattle.task_ast.specs.meaning.Tree.{Program}
use Rattle.task_ast.specs.Plain.{order, tree_machine}
use Rattle.task_ast.proofs.PlainRuns.{count_law}
use Rattle.task_ast.proofs.Runs.{order-is as plain-is}
use Rattle.one_thread.specs.PlainRuns.{shown}
use Rattle.one_thread.specs.declared.run.Step.{Step}
use Rattle.dependence.specs.meaning.Restarts.{Dependence}
use Rattle.gp_audit.specs.declared.line.TraceLine.{TraceLine}
use Rattle.gp_audit.specs.declared.verdict.Verdict.{Verdict}
use Rattle.gp_audit.specs.Steps.{dependence_by}
use Rattle.gp_audit.specs.meaning.Verdicts.{IsVerdict}
use Rattle.gp_audit.proofs.Fronts.{verdict_once}
use Rattle.gp_audit.proofs.Orders.{order-is}
use Rattle.call_cases.specs.meaning.Work.{ToDo}
use Rattle.call_cases.specs.meaning.Journals.{run_of, dependence_for}
use Rattle.call_cases.specs.Answers.{PutFor, unwritten}
use Rattle.audit_calls.specs.inner.Trials.{Judge, tried_with}

-- the plain run has few steps
pub few_steps : (program : Program) (inputs : Inputs) (limits : Limits) (steps : List Step)
    → steps ≡ map shown (order program inputs limits) → limits.subthreads ≤ MOST_SUBTHREADS
    → length steps < 4294967295
few_steps program inputs limits steps are few =
    let count : length (order program inputs limits) ≤ limits.subthreads =
    count_law (tree_machine program inputs limits) program inputs limits in
    let same = ap length are ∙ length-map (order program inputs limits) shown in
    omega (arith, count, same)

-- a verdict by the steps of the plain run is one by its subthreads
pub verdict_is : (work : ToDo) (lines : List TraceLine) (steps : List Step) (verdict : Verdict)
    → steps ≡ map shown (order work.program work.inputs work.limits)
    → IsVerdict (dependence_by steps) work.faults lines verdict → IsVerdict (dependence_for work) work.faults lines verdict
unfolding run_of dependence_for
verdict_is work lines steps verdict are is =
    subst (λ (dependence : Dependence). IsVerdict dependence work.faults lines verdict) (ap dependence_by are
    ∙ (ap (λ run. dependence_by (map shown run)) (sym (plain-is work.program work.inputs work.limits)) ∙ order-is (run_of work))) is

-- and so it is the judge's
pub verdict_judged : (judge : Judge) (work : ToDo) (lines : List TraceLine) (steps : List Step) (verdict : Verdict)
    → steps ≡ map shown (order work.program work.inputs work.limits)
    → IsVerdict (dependence_by steps) work.faults lines verdict → verdict ≡ tried_with judge work lines
verdict_judged judge work lines steps verdict are is =
    verdict_once (dependence_for work) work.faults lines verdict (judge.verdict_of (dependence_for work) work.faults lines)
    (verdict_is work lines steps verdict are is) (judge.judges (dependence_for work) work.faults lines)

-- memory was out before anything was written
pub stopped_memory : (text : List ℕ) (due : ℕ) (written : Option (List ℕ)) (faults : ℕ) (result : Result ℕ SinkFault) (fault : SinkFault)
    → result ≡ Err fault → fault ≡ OutOfMemory
    → PutFor text due (unwritten written faults) result
stopped_memory text due written faults result fault is out =
    subst (PutFor text due (unwritten written faults)) (sym is)
    (record {
      status = tt;
      all = tt;
      part = prefix_none written text;
      cause = λ failed. let never : OutOfMemory ≡ Failed = sym out
          ∙ failed in cc never;
    })
