use Rattle.std.proofs.Common.{get_or, sym, ◌∙◌, refl, None}
use Rattle.subthread.specs.inner.Running.{place_in}
use Rattle.subthread.proofs.Instructions.{instr_read, stays_read, none_past}
use Rattle.subthread.proofs.Beginnings.{begins_behind}
use Rattle.subthread.proofs.begins.begin_control.Goals as goal

pub go_behind-requires-clause-inside : goal.go_behind-requires-clause-inside
go_behind-requires-clause-inside c =
    let read = c.index-ground-cursor in
    stays_read c.args.ground.now.instrs.now c.requires.inside c.requires.short c.args.cursor.now.pc read.result
    c.if-cursor-ground.true read.is

pub returns-then-cursor-ground : goal.returns-then-cursor-ground
returns-then-cursor-ground c =
    let ground = c.args.ground.now in
    let place = place_in ground c.args.cursor.now in
    let then = place_in ground c.go_behind.new.cursor in
    let pc = c.args.cursor.now.pc in
    let read = c.index-ground-cursor in
    let here = instr_read ground.instrs.now pc read.result c.if-cursor-ground.true read.is in
    let later = sym c.is_start.ensures ∙ c.if-is_start.false in
    let line = (get_or ground.instrs.now c.args.cursor.now.pc c.index-ground-cursor.result).line in
    begins_behind ground c.requires c.args.child place refl c.args.begins.now _ later here then (c.go_behind.ensures line)

pub returns-else-cursor-ground : goal.returns-else-cursor-ground
returns-else-cursor-ground c =
    let ground = c.args.ground.now in
    let place = place_in ground c.args.cursor.now in
    let later = sym c.is_start.ensures ∙ c.if-is_start.false in
    let none = none_past ground.instrs.now c.args.cursor.now.pc c.if-cursor-ground.false in
    begins_behind ground c.requires c.args.child place refl c.args.begins.now None later none place refl
