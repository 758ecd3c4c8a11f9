use Rattle.std.proofs.Common.{◌≡◌, sym, ap, ◌∙◌, ◌++◌, [], List, map, subst}
use Rattle.std.specs.Prelude.{unwrap_or, slice_get}
use Rattle.task_ast.specs.meaning.Control.{Point}
use Rattle.task_ast.specs.View.{plain_program}
use Rattle.lock_checker.proofs.BaseLemmas.{accepted_small}
use Rattle.one_thread.specs.declared.threads.Run.{Run}
use Rattle.one_thread.specs.declared.walk.Walk.{Walk}
use Rattle.one_thread.specs.Moves.{Follows}
use Rattle.one_thread.specs.Walking.{point_of}
use Rattle.one_thread.proofs.Running.{follows-here}
use Rattle.run_picture.specs.meaning.Attempts.{Values}
use Rattle.run_picture.specs.inner.Drawn.{values_from}
use Rattle.run_picture.proofs.Coming.{Comes, comes-start, comes-more, values-next}
use Rattle.run_picture.proofs.values.values_before.Goals as goal

pub new-requires-clause-small : goal.new-requires-clause-small
new-requires-clause-small c =
    let small = accepted_small (plain_program c.args.c.now.program) c.args.c.now.accepted.faultless in
    record { locks = small.0; records = small.1 }

pub loop-step-init : goal.loop-step-init
loop-step-init c =
    let small = accepted_small (plain_program c.args.c.now.program) c.args.c.now.accepted.faultless in
    record {
      same =
          ap (λ (l : List Values). l ++ values_from (plain_program c.args.c.now.program) c.args.inputs.now c.args.limits 0 c.args.order.now)
          c.new-known.ensures.items;
      comes =
          subst (λ r. Comes c.args.c.now.program c.args.inputs.now c.args.limits 0 r) (sym c.in_ok-run.ensures.ok)
          (comes-start c.args.c.now.program c.args.inputs.now c.args.limits c.in_ok-opening.opening c.in_ok-opening.ensures);
      small = record { locks = small.0; records = small.1 };
    }

pub loop-step-preserved : goal.loop-step-preserved
loop-step-preserved c =
    let at = c.loop-step.step-index in
    let before =
    subst (λ r. Comes c.args.c.now.program c.args.inputs.now c.args.limits at r) (sym c.deref_mut.ensures.value) c.loop-step.invariant.comes in
    let follows =
    follows-here c.args.c.now.program c.args.inputs.now c.args.limits c.deref_mut.result.now c.next.new.self c.in_ok-next.field-0 before.plain
    c.in_ok-next.ensures before.holds in
    let went =
    subst (λ m. Follows c.args.c.now.program c.args.inputs.now c.args.limits c.deref_mut.result.now before.plain m c.next.new.self)
    c.in-Goes.is follows in
    record {
      same =
          values-next c.args.c.now.program c.args.inputs.now c.args.limits at c.args.order.now c.step-item.result c.loop-step.run.value
          c.loop-step.known.items c.push.new.self.items _ c.in_ok-values_of.field-0
          c.loop-step-test.true c.step-item.is c.loop-step.invariant.comes c.loop-step.invariant.same
          (c.in_ok-values_of.ensures
          ∙ ap (λ (walks : List Walk). unwrap_or (slice_get (map (λ (p : Point). p.names) (map point_of walks)) c.step-item.result.thread) [])
          (c.deref-in-loop-step.ensures.value ∙ ap (λ (r : Run). r.threads.items) c.deref.ensures))
          c.in_ok-push.ensures.items;
      comes = comes-more c.args.c.now.program c.args.inputs.now c.args.limits at c.in-Goes.next c.deref_mut.result.now c.next.new.self before went;
      small = c.loop-step.invariant.small;
    }
