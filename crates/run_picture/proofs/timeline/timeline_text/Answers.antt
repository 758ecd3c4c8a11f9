use Rattle.std.proofs.Common.{◌≡◌, ◌≤◌, ℕ, List, Bor, length, map, ap, sym, subst, ◌∙◌, arith}
use Rattle.std.specs.Prelude.{option_map}
use Rattle.std.proofs.lemmas.Result.{IfOk-weaker}
use Rattle.task_ast.specs.declared.tree.Program.{Program}
use Rattle.task_ast.specs.View.{plain_program}
use Rattle.lock_checker.specs.Accepted.{program_of}
use Rattle.one_thread.specs.declared.run.Step.{Step}
use Rattle.gp_audit.specs.declared.line.TraceLine.{TraceLine}
use Rattle.run_views.specs.Seen.{seen}
use Rattle.run_views.proofs.Endings.{few-steps}
use Rattle.run_picture.specs.meaning.Elements.{Layout}
use Rattle.run_picture.specs.meaning.Picture.{picture, timeline_text}
use Rattle.run_picture.specs.inner.Drawn.{values_in, values_from}
use Rattle.run_picture.specs.inner.Tellings.{found}
use Rattle.run_picture.proofs.Pictures.{few-made, picture-shown}
use Rattle.run_picture.proofs.timeline.timeline_text.Goals as goal

pub restarts_of-requires : goal.restarts_of-requires
restarts_of-requires c =
    let few = few-steps (plain_program (program_of c.args.c.now)) c.args.inputs.now c.args.limits c.in_ok-run.run' c.in_ok-run.ensures
    c.requires in
    omega arith

pub bands_of-requires : goal.bands_of-requires
bands_of-requires c =
    subst (λ (steps : List Step). length steps ≤ 200000) (sym c.as_slice-order.ensures)
    (few-steps (plain_program (program_of c.args.c.now)) c.args.inputs.now c.args.limits c.in_ok-run.run' c.in_ok-run.ensures c.requires)

pub picture-requires-clause-few : goal.picture-requires-clause-few
picture-requires-clause-few c =
    subst (λ (steps : List Step). length steps ≤ 200000) (sym c.as_slice-order.ensures)
    (few-steps (plain_program (program_of c.args.c.now)) c.args.inputs.now c.args.limits c.in_ok-run.run' c.in_ok-run.ensures c.requires)

pub picture-requires-clause-few_restarts : goal.picture-requires-clause-few_restarts
picture-requires-clause-few_restarts c =
    few-made (plain_program (program_of c.args.c.now)) c.args.inputs.now c.args.limits c.in_ok-run.run' c.in_ok-run.ensures c.args.faults.now.list _
    (c.as_slice-3.ensures ∙ c.in_ok-restarts.ensures) c.args.faults.now.few

pub returns : goal.returns
returns c =
    let program = plain_program (program_of c.args.c.now) in
    let trace = option_map (λ (lines : Bor (List TraceLine)). lines.now) c.args.trace in
    let heads = c.as_slice-2.result.now in
    let tells = found c.in_ok-tellings.tellings in
    let known = c.deref.result.now in
    let made = c.as_slice-3.result.now in
    IfOk-weaker c.picture.result _
    (λ text. (layout : Layout) × (text ≡ timeline_text layout program c.args.inputs.now c.args.limits c.args.faults.now.list trace))
    (λ text is. (
      is.0,
      is.1 ∙ ap (λ (steps : List Step). picture is.0 heads tells (values_in known) (map seen steps) c.in_ok-run.run'.end made) c.as_slice-order.ensures
          ∙ picture-shown program c.args.inputs.now c.args.limits c.in_ok-run.run' c.in_ok-run.ensures c.args.faults.now.list made
          (c.as_slice-3.ensures ∙ c.in_ok-restarts.ensures) is.0 heads
          (c.as_slice-2.ensures ∙ ap (λ (p : Program). p.heads) c.program.ensures) trace tells c.in_ok-tellings.ensures known
          (c.deref.ensures.value ∙ c.in_ok-known.ensures
          ∙ ap (values_from program c.args.inputs.now c.args.limits 0) c.as_slice-order.ensures),
    ))
    c.picture.ensures
