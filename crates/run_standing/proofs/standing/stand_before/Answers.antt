use Rattle.std.proofs.Common.{subst, sym}
use Rattle.task_ast.specs.Plain.{Plain}
use Rattle.task_ast.specs.View.{plain_program}
use Rattle.lock_checker.proofs.BaseLemmas.{accepted_small}
use Rattle.run_standing.specs.Standings.{Stands}
use Rattle.one_thread.specs.Moves.{Follows}
use Rattle.one_thread.proofs.Running.{follows-here}
use Rattle.one_thread.specs.View.{table_of}
use Rattle.run_standing.proofs.Nearing.{Nears, nears-start, nears-more, nears-there, nears-short}
use Rattle.run_standing.proofs.standing.stand_before.Goals as goal

pub new-requires-clause-small : goal.new-requires-clause-small
new-requires-clause-small c =
    let small = accepted_small (plain_program c.args.c.now.program) c.args.c.now.accepted.faultless in
    record { locks = small.0; records = small.1 }

pub loop-at-init : goal.loop-at-init
loop-at-init c =
    let small = accepted_small (plain_program c.args.c.now.program) c.args.c.now.accepted.faultless in
    record {
      nears =
          subst (λ r. Nears c.args.c.now.program c.args.inputs.now c.args.limits c.args.position 0 r) (sym c.in_ok-run.ensures.ok)
          (nears-start c.args.c.now.program c.args.inputs.now c.args.limits c.args.position c.in_ok-opening.opening c.in_ok-opening.ensures);
      small = record { locks = small.0; records = small.1 };
    }

pub loop-at-preserved : goal.loop-at-preserved
loop-at-preserved c =
    let nears =
    subst (λ r. Nears c.args.c.now.program c.args.inputs.now c.args.limits c.args.position c.loop-at.at r) (sym c.deref_mut.ensures.value)
    c.loop-at.invariant.nears in
    let follows =
    follows-here c.args.c.now.program c.args.inputs.now c.args.limits c.deref_mut.result.now c.next.new.self c.in_ok-step.field-0 nears.plain
    c.in_ok-step.ensures nears.holds in
    let went =
    subst (λ m. Follows c.args.c.now.program c.args.inputs.now c.args.limits c.deref_mut.result.now nears.plain m c.next.new.self)
    c.in-Goes.is follows in
    record {
      nears =
          nears-more c.args.c.now.program c.args.inputs.now c.args.limits c.args.position c.loop-at.at c.in-Goes.step c.deref_mut.result.now
          c.next.new.self c.loop-at-test.true nears went;
      small = c.loop-at.invariant.small;
    }

pub returns-in-Ends : goal.returns-in-Ends
returns-in-Ends c =
    let nears =
    subst (λ r. Nears c.args.c.now.program c.args.inputs.now c.args.limits c.args.position c.loop-at.at r) (sym c.deref_mut.ensures.value)
    c.loop-at.invariant.nears in
    let follows =
    follows-here c.args.c.now.program c.args.inputs.now c.args.limits c.deref_mut.result.now c.next.new.self c.in_ok-step.field-0 nears.plain
    c.in_ok-step.ensures nears.holds in
    let halted =
    subst (λ m. Follows c.args.c.now.program c.args.inputs.now c.args.limits c.deref_mut.result.now nears.plain m c.next.new.self)
    c.in-Ends.is follows in
    nears-short c.args.c.now.program c.args.inputs.now c.args.limits c.args.position c.loop-at.at c.deref_mut.result.now c.in-Ends._end
    c.loop-at-test.true nears halted.0

pub returns : goal.returns
returns c =
    let nears =
    subst (λ r. Nears c.args.c.now.program c.args.inputs.now c.args.limits c.args.position c.loop-at.at r) (sym c.deref.ensures)
    c.loop-at.invariant.nears in
    let standing = c.in_ok-standing_of.field-0 in
    subst (λ (here : Plain). Stands here.table here.points standing)
    (nears-there c.args.c.now.program c.args.inputs.now c.args.limits c.args.position c.loop-at.at c.deref.result.now c.loop-at-test.false
    nears)
    (subst (λ table. Stands table nears.plain.points standing) nears.holds.table
    (subst (λ points. Stands (table_of c.deref.result.now.table) points standing) nears.holds.points c.in_ok-standing_of.ensures))
