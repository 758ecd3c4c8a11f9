use Rattle.std.proofs.Common.{◌∙◌, ap, sym, subst}
use Rattle.task_ast.specs.View.{plain_program}
use Rattle.lock_checker.proofs.BaseLemmas.{accepted_small}
use Rattle.one_thread.specs.Moves.{Follows, Ahead}
use Rattle.one_thread.proofs.Running.{ahead-start, ahead-more, ahead-smaller, ahead-ends, follows-here}
use Rattle.one_thread.proofs.run.run_reckoned.Goals as goal

pub new-requires-clause-small : goal.new-requires-clause-small
new-requires-clause-small g c =
    let small = accepted_small (plain_program c.args.c.now.program) c.args.c.now.accepted.faultless in
    record { locks = small.0; records = small.1 }

pub loop-order-init : goal.loop-order-init
loop-order-init g c =
    let small = accepted_small (plain_program c.args.c.now.program) c.args.c.now.accepted.faultless in
    record {
      ahead =
          subst (λ l. Ahead c.args.c.now.program c.args.inputs.now c.args.limits l c.in_ok-run.run') (sym c.new-order.ensures)
          (ahead-start c.args.c.now.program c.args.inputs.now c.args.limits c.in_ok-run.run' c.in_ok-run.ensures);
      small = record { locks = small.0; records = small.1 };
    }

pub loop-order-smaller : goal.loop-order-smaller
loop-order-smaller g c =
    let ahead = c.loop-order.invariant.ahead in
    let follows =
    follows-here c.args.c.now.program c.args.inputs.now c.args.limits c.loop-order.run c.next.new.self c.in_ok-step.field-0 ahead.plain
    c.in_ok-step.ensures ahead.holds in
    let went =
    subst (λ m. Follows c.args.c.now.program c.args.inputs.now c.args.limits c.loop-order.run ahead.plain m c.next.new.self)
    c.in-Goes.is follows in
    ahead-smaller c.args.c.now.program c.args.inputs.now c.args.limits c.loop-order.order c.in-Goes.step c.loop-order.run
    c.next.new.self ahead went

pub loop-order-preserved : goal.loop-order-preserved
loop-order-preserved g c =
    let ahead = c.loop-order.invariant.ahead in
    let follows =
    follows-here c.args.c.now.program c.args.inputs.now c.args.limits c.loop-order.run c.next.new.self c.in_ok-step.field-0 ahead.plain
    c.in_ok-step.ensures ahead.holds in
    let went =
    subst (λ m. Follows c.args.c.now.program c.args.inputs.now c.args.limits c.loop-order.run ahead.plain m c.next.new.self)
    c.in-Goes.is follows in
    record {
      ahead =
          subst (λ l. Ahead c.args.c.now.program c.args.inputs.now c.args.limits l c.next.new.self) (sym c.in_ok-push-in-Goes.ensures.ok)
          (ahead-more c.args.c.now.program c.args.inputs.now c.args.limits c.loop-order.order c.in-Goes.step c.loop-order.run
          c.next.new.self ahead went);
      small = c.loop-order.invariant.small;
    }

pub returns-in-Ends : goal.returns-in-Ends
returns-in-Ends g c =
    let ahead = c.loop-order.invariant.ahead in
    let follows =
    follows-here c.args.c.now.program c.args.inputs.now c.args.limits c.loop-order.run c.next.new.self c.in_ok-step.field-0 ahead.plain
    c.in_ok-step.ensures ahead.holds in
    let halted =
    subst (λ m. Follows c.args.c.now.program c.args.inputs.now c.args.limits c.loop-order.run ahead.plain m c.next.new.self)
    c.in-Ends.is follows in
    ahead-ends c.args.c.now.program c.args.inputs.now c.args.limits c.loop-order.order c.loop-order.run c.in-Ends.end c.cells_of.result
    ahead halted.0 (c.cells_of.ensures ∙ ap (λ s. s.cells) halted.1)
