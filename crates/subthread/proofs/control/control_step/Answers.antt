use Rattle.std.proofs.Common.{sym, subst, refl, IfOk, None}
use Rattle.task_code.specs.Reading.{step_instr}
use Rattle.subthread.specs.inner.Moving.{Moved}
use Rattle.subthread.specs.inner.Running.{place_in}
use Rattle.subthread.proofs.Instructions.{instr_read, stays_read, none_past}
use Rattle.subthread.proofs.control.control_step.Goals as goal

pub control_at-requires : goal.control_at-requires
control_at-requires c =
    let task = c.requires in
    let read = c.index-ground-cursor in
    stays_read c.args.ground.now.instrs.now task.inside task.short c.args.cursor.now.pc read.result c.if-cursor-ground.true read.is

pub returns-then-cursor-ground : goal.returns-then-cursor-ground
returns-then-cursor-ground c =
    let ground = c.args.ground.now in
    let place = place_in ground c.args.cursor.now in
    let then = place_in ground c.control_at.new.cursor in
    let pc = c.args.cursor.now.pc in
    let read = c.index-ground-cursor in
    let here = instr_read ground.instrs.now pc read.result c.if-cursor-ground.true read.is in
    subst (λ o. IfOk c.control_at.result (λ went. Moved (step_instr ground.feeds.now o place) went place then)) (sym here)
    c.control_at.ensures

pub returns-else-cursor-ground : goal.returns-else-cursor-ground
returns-else-cursor-ground c =
    let ground = c.args.ground.now in
    let place = place_in ground c.args.cursor.now in
    subst (λ o. Moved (step_instr ground.feeds.now o place) c.stop.result place place)
    (sym (none_past ground.instrs.now c.args.cursor.now.pc c.if-cursor-ground.false))
    (subst (λ went. Moved (step_instr ground.feeds.now None place) went place place) (sym c.stop.ensures) (refl, refl))
