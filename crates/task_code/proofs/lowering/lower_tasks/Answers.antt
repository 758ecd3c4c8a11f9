use Rattle.std.proofs.Common.{◌<◌, length, get_or, ap, sym, ◌∙◌, subst}
use Rattle.task_ast.specs.declared.tree.Program.{Program}
use Rattle.task_ast.specs.meaning.Names.{registers_of}
use Rattle.task_ast.specs.View.{plain_program, plain_task}
use Rattle.lock_checker.specs.Accepted.{program_of}
use Rattle.task_code.proofs.TaskLists.{at_map, mapped, tasks_more}
use Rattle.task_code.proofs.lowering.lower_tasks.Goals as goal

pub lower_task-requires-clause-registers : goal.lower_task-requires-clause-registers
lower_task-requires-clause-registers c =
    let texts = (program_of c.args.checked.now).tasks in
    let k = c.loop-k.k in
    let same = c.as_slice-task-items.ensures ∙ ap (λ (p : Program). p.tasks) c.program.ensures in
    let below : k < length texts = subst (λ l. k < length l) same c.loop-k-test.true in
    let is = c.task-item.is ∙ ap (λ l. get_or l k c.task-item.result) same in
    c.as_slice-registers.ensures
    ∙ at_map (λ text. registers_of (plain_task text)) texts c.args.index.now.registers.items k c.task-item.result c.index.result.now
    (c.requires.registers ∙ sym (mapped registers_of plain_task texts)) below is c.index.ensures

pub loop-k-preserved : goal.loop-k-preserved
loop-k-preserved c =
    let texts = (program_of c.args.checked.now).tasks in
    let k = c.loop-k.k in
    let same = c.as_slice-task-items.ensures ∙ ap (λ (p : Program). p.tasks) c.program.ensures in
    let below : k < length texts = subst (λ l. k < length l) same c.loop-k-test.true in
    let is = c.task-item.is ∙ ap (λ l. get_or l k c.task-item.result) same in
    tasks_more (plain_program (program_of c.args.checked.now)) texts k c.task-item.result c.loop-k.tasks c.push.new.self c.loop-k.shapes
    c.push-in-loop-k.new.self c.in_ok-instrs.instrs c.in_ok-instrs.shape
    below is c.in_ok-push.ensures.ok c.in_ok-push-2.ensures.ok c.in_ok-instrs.ensures.code c.in_ok-instrs.ensures.shape
    c.in_ok-instrs.ensures.short c.loop-k.invariant
