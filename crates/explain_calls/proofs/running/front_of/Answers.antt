use Rattle.std.proofs.Common.{◌≡◌, ◌∙◌, ◌++◌, length, ap, rules}
use Rattle.std.proofs.lemmas.List.{length-map}
use Rattle.task_ast.specs.Plain.{order}
use Rattle.one_thread.specs.PlainRuns.{shown}
use Rattle.call_cases.specs.Decided.{program_in, work_of}
use Rattle.run_views.specs.meaning.Deadlocks.{deadlock_text}
use Rattle.explain_calls.specs.meaning.Fronts.{ending_line, last_run}
use Rattle.explain_calls.proofs.Fronts.{front-finished, front-is, front-spent, stands-last}
use Rattle.explain_calls.proofs.running.front_of.Goals as goal

pub returns-in-Finished : goal.returns-in-Finished
returns-in-Finished c =
    let work = work_of c.args.request.now in
    c.in_ok-push_ending.ensures ∙ ap (λ xs. xs ++ ending_line c.args.run.now.end) c.new-text.ensures.items
    ∙ front-finished work.program work.inputs work.limits c.args.run.now.end c.requires.end c.in-Finished.is

pub returns-in-Spent : goal.returns-in-Spent
returns-in-Spent c =
    let work = work_of c.args.request.now in
    c.in_ok-push_ending.ensures ∙ ap (λ xs. xs ++ ending_line c.args.run.now.end) c.new-text.ensures.items
    ∙ front-spent work.program work.inputs work.limits c.args.run.now.end c.requires.end c.in-Spent.field-0 c.in-Spent.is

pub returns-in_ok-push_stuck_details-in-Stuck : goal.returns-in_ok-push_stuck_details-in-Stuck
returns-in_ok-push_stuck_details-in-Stuck c =
    let work = work_of c.args.request.now in
    let last = last_run work.program work.inputs work.limits in
    let heads : c.as_slice-heads.result.now ≡ (program_in c.args.request.now).heads = search rules in
    let ending = c.in_ok-push_ending.ensures ∙ ap (λ xs. xs ++ ending_line c.args.run.now.end) c.new-text.ensures.items in
    let stands =
    stands-last work.program work.inputs work.limits c.len.result c.in_ok-standing-in-Stuck.standing
    (c.len.ensures ∙ ap length c.requires.order ∙ length-map (order work.program work.inputs work.limits) shown)
    c.in_ok-standing-in-Stuck.ensures in
    c.in_ok-push_stuck-in-Stuck.ensures last stands.0 stands.1
    ∙ ap (λ hs. c.push_ending.new.text.items ++ deadlock_text hs last c.args.run.now.end) heads
    ∙ ap (λ xs. xs ++ deadlock_text work.program.heads last c.args.run.now.end) ending
    ∙ front-is work.program work.inputs work.limits c.args.run.now.end c.requires.end
