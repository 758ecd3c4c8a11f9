use Rattle.std.proofs.Common.{◌<◌, ◌≤◌, ◌++◌, ℕ, List, length, get_or, map, ap, sym, subst, ◌∙◌, arith}
use Rattle.task_ast.specs.declared.tree.Program.{Program}
use Rattle.task_ast.specs.View.{plain_program}
use Rattle.task_ast.specs.meaning.Names.{records_of, cells_in}
use Rattle.lock_checker.specs.Accepted.{program_of}
use Rattle.one_thread.specs.declared.run.Step.{Step}
use Rattle.run_views.specs.meaning.Why.{why_lines}
use Rattle.run_views.specs.Seen.{seen, party_in}
use Rattle.run_views.proofs.Endings.{few-steps}
use Rattle.run_views.proofs.Linking.{cells-counted, why-shown, why-past}
use Rattle.run_views.proofs.why.why_text.Goals as goal

pub returns-then-position-steps : goal.returns-then-position-steps
returns-then-position-steps c =
    why-past (plain_program (program_of c.args.c.now)) c.args.inputs.now c.args.limits c.in_ok-run.run' c.in_ok-run.ensures
    c.args.faults.now.list c.args.position
    (subst (λ (steps : List Step). length steps ≤ c.args.position) c.as_slice-steps.ensures c.if-position-steps.true)

pub restarts_of-requires : goal.restarts_of-requires
restarts_of-requires c =
    let few = few-steps (plain_program (program_of c.args.c.now)) c.args.inputs.now c.args.limits c.in_ok-run.run' c.in_ok-run.ensures
    c.requires in
    omega (arith, few)

pub push_why-requires-clause-cells : goal.push_why-requires-clause-cells
push_why-requires-clause-cells c =
    c.len.ensures
    ∙ cells-counted (plain_program (program_of c.args.c.now)) c.args.inputs.now c.args.limits c.in_ok-run.run' c.in_ok-run.ensures
    c.args.faults.now.list c.args.position
    ∙ ap (λ heads. cells_in (records_of heads)) (sym (c.as_slice.ensures ∙ ap (λ (p : Program). p.heads) c.program.ensures))

pub returns : goal.returns
returns c =
    let lines : List Step → List ℕ =
    λ steps. why_lines c.as_slice.result.now (map party_in steps) c.as_slice-2.result.now c.args.position
    (seen (get_or steps c.args.position c.index-steps-position.result)) in
    why-shown (plain_program (program_of c.args.c.now)) c.args.inputs.now c.args.limits c.in_ok-run.run' c.in_ok-run.ensures
    c.args.faults.now.list c.args.position
    c.as_slice.result.now c.as_slice-2.result.now c.index-steps-position.result c.from_vec.result
    (c.as_slice.ensures ∙ ap (λ (p : Program). p.heads) c.program.ensures) (c.as_slice-2.ensures ∙ c.in_ok-restarts.ensures)
    (subst (λ (steps : List Step). c.args.position < length steps) c.as_slice-steps.ensures c.if-position-steps.false)
    (c.from_vec.ensures ∙ c.in_ok-push_why.ensures
    ∙ ap (λ (s : Step). c.new-text.result.items
    ++ why_lines c.as_slice.result.now (map party_in c.as_slice-steps.result.now) c.as_slice-2.result.now c.args.position
    (seen s)) c.index-steps-position.is
    ∙ ap (λ text. text ++ lines c.as_slice-steps.result.now) c.new-text.ensures.items ∙ ap lines c.as_slice-steps.ensures)
