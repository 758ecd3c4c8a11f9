use Rattle.std.proofs.Common.{ap, ◌∙◌}
use Rattle.task_ast.specs.declared.tree.Program.{Program}
use Rattle.task_ast.specs.View.{plain_program}
use Rattle.lock_checker.specs.Accepted.{program_of}
use Rattle.run_views.proofs.SeenSteps.{text_shown}
use Rattle.run_views.proofs.order.order_text.Goals as goal

pub returns : goal.returns
returns c =
    text_shown (plain_program (program_of c.args.c.now)) c.args.inputs.now c.args.limits c.in_ok-run.run' _ _ _ _ _ _ _ c.in_ok-run.ensures
    c.in_ok-text.ensures.items (c.as_slice.ensures ∙ ap (λ (p : Program). p.heads) c.program.ensures) c.as_slice-2.ensures
    c.in_ok-push_order.ensures c.in_ok-push_end.ensures c.in_ok-push_deadlock.ensures c.from_vec.ensures
