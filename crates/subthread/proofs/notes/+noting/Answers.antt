use Rattle.std.proofs.Common.{arith, sym, ap, ◌∙◌}
use Rattle.task_code.specs.Reading.{calc_of_registers, deed_action, deeds_arm}
use Rattle.task_code.specs.View.{plain_arm, plain_calc, plain_deed}
use Rattle.task_code.proofs.Views.{view, deed_When}
use Rattle.subthread.specs.inner.Running.{env_in}
use Rattle.subthread.proofs.Beginnings.{on_ok}
use Rattle.subthread.proofs.Noted.{both_noted}
use Rattle.subthread.proofs.notes.+noting.Goals as goal

pub note-returns-in_ok-note_all-in-When : goal.note-returns-in_ok-note_all-in-When
note-returns-in_ok-note_all-in-When t c =
    let env = env_in c.args.ground.now c.args.ctl.now in
    let deed = c.in-When in
    let first = rw c.as_slice.ensures at c.in_ok-note_all-in-When.ensures in
    let second = rw c.as_slice-in-When.ensures at c.note_all-in-When.ensures in
    on_ok c.note_all-in-When.result
    (λ notes a is.
    both_noted (calc_of_registers (plain_calc deed.field-0) env) (deeds_arm (plain_arm deed.first) env) (deeds_arm (plain_arm deed.second) env)
    c.args.names.now c.note_all.new.names c.note_all-in-When.new.names first notes a
    (sym (ap (λ d. deed_action d env) (ap plain_deed deed.is ∙ deed_When deed.field-0 deed.first deed.second)) ∙ is))
    second

pub note-returns-in-SetReg : goal.note-returns-in-SetReg
note-returns-in-SetReg t c = grind (arith, view)

pub note-returns-in_ok-narrow-in-Some : goal.note-returns-in_ok-narrow-in-Some
note-returns-in_ok-narrow-in-Some t c = grind (arith, view)

pub note-returns-in-None : goal.note-returns-in-None
note-returns-in-None t c = grind (arith, view)

pub note-returns-in_ok-narrow-in-Some-cell_at : goal.note-returns-in_ok-narrow-in-Some-cell_at
note-returns-in_ok-narrow-in-Some-cell_at t c = grind (arith, view)

pub note-returns-in-None-cell_at : goal.note-returns-in-None-cell_at
note-returns-in-None-cell_at t c = grind (arith, view)

pub note-returns-in-Print : goal.note-returns-in-Print
note-returns-in-Print t c = grind (arith, view)
