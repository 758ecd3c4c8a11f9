use Rattle.std.proofs.Common.{◌≡◌, ◌≤◌, ◌-◌, subst, refl, ap, arith, rules, slice_get, Some}
use Rattle.subthread.specs.declared.task.Done.{Done}
use Rattle.subthread.specs.Tasks.{effect_of}
use Rattle.crew.specs.Noted.{NotesNothing}
use Rattle.retirement_log.specs.declared.notes.LogNotes.{LogNotes}
use Rattle.retirement_log.specs.Telling.{Tells, KeepsOthers}
use Rattle.retirement_log.proofs.Told.{kept_all, noted}
use Rattle.retirement_log.proofs.notes.LogNotesNotes.took.Goals as goal

pub returns-in_err-grow-clause-kept : goal.returns-in_err-grow-clause-kept
returns-in_err-grow-clause-kept c =
    let after : LogNotes = record c.args.self.now { rows = c.grow.new.rows } in
    let kept : NotesNothing (Tells c.args.self.now) (Tells after) = kept_all c.args.self.now after refl refl c.in_err-grow.ensures.kept in
    search (rules, kept)

pub returns-clause-noted : goal.returns-clause-noted
returns-clause-noted c =
    let after : LogNotes = record c.args.self.now { rows = c.put_row.new.rows } in
    let position = ap (λ (done : Done). done.task.pos) c.done.view_is in
    let less = c.in-Some.ensures in
    let place : c.in-Some.at ≡ c.args.done.now.task.pos - c.args.self.now.next = omega arith in
    let ahead : c.args.self.now.next ≤ c.args.done.now.task.pos = omega arith in
    noted c.args.self.now after c.args.done.now.task.pos
    (effect_of c.args.work.now c.args.done.now) c.in_ok-row.row ahead refl refl c.in_ok-row.ensures
    (subst (λ k. slice_get c.put_row.new.rows.items k ≡ Some (Some c.in_ok-row.row)) place c.put_row.ensures.put)
    (subst (λ k. KeepsOthers k c.args.self.now.rows.items c.put_row.new.rows.items) place
    (λ k row apart is. c.put_row.ensures.kept k row apart (c.in_ok-grow.ensures.kept k row is)))
