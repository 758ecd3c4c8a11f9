use Rattle.std.proofs.Common.{◌≡◌, ◌∙◌, subst, rules, arith}
use Rattle.std.specs.Io.KnownBytes.{Appends}
use Rattle.gp_base.specs.meaning.Sinks.{AppendsPrefix}
use Rattle.crew.specs.Noted.{NotesPart}
use Rattle.retirement_log.specs.declared.notes.LogNotes.{LogNotes}
use Rattle.retirement_log.specs.meaning.Telling.{TellsPart}
use Rattle.retirement_log.specs.Telling.{Tells}
use Rattle.retirement_log.proofs.Told.{parts_text, told_one, told_part, told_nothing, told_unnoted}
use Rattle.retirement_log.proofs.notes.LogNotesNotes.retired.Goals as goal

pub returns-in_default-clause-told : goal.returns-in_default-clause-told
returns-in_default-clause-told g c =
    let after : LogNotes = record c.args.self.now { rows = c.take_first.new.rows } in
    told_unnoted c.args.self.now after c.args.position (g.L.Sink.written c.args.log.now)
    (g.L.Sink.written c.args.log.now) c.in_default.ensures

pub returns-in_default-2-clause-part : goal.returns-in_default-2-clause-part
returns-in_default-2-clause-part g c = told_nothing c.args.self.now c.args.position (g.L.Sink.written c.args.log.now)

pub returns-in_err-text-clause-part : goal.returns-in_err-text-clause-part
returns-in_err-text-clause-part g c = search (rules, told_nothing c.args.self.now c.args.position (g.L.Sink.written c.args.log.now))

pub returns-in_err-put_all-clause-part : goal.returns-in_err-put_all-clause-part
returns-in_err-put_all-clause-part g c =
    let bytes = c.in-Some-Some.bytes in
    let text : c.deref-2.result.now ≡ parts_text c.args.position bytes c.in-Some.row.groups.items
    = c.deref-2.ensures.value ∙ c.in_ok-text.ensures ∙ (λ i. parts_text (c.position.view_is i) bytes (c.deref.ensures.value i)) in
    let part : NotesPart (Tells c.args.self.now) TellsPart (g.L.Sink.written c.args.log.now)
    (g.L.Sink.written c.put_all.new.to) c.args.position
    =
    told_part c.args.self.now c.in-Some.row c.take_first.new.rows.items c.args.position bytes (g.L.Sink.written c.args.log.now)
    (g.L.Sink.written c.put_all.new.to)
    c.in-Some.ensures c.in-Some-Some.ensures'.sum (omega arith) c.in-Some-Some.ensures'.wide
    (subst (AppendsPrefix (g.L.Sink.written c.args.log.now) (g.L.Sink.written c.put_all.new.to)) text c.in_err-put_all.ensures.prefix) in
    search (rules, part)

pub returns-clause-told : goal.returns-clause-told
returns-clause-told g c =
    let bytes = c.in-Some-Some.bytes in
    let after : LogNotes = record c.args.self.now { next = c.in-Some-Some.next; bytes = bytes; rows = c.take_first.new.rows } in
    let text : c.deref-2.result.now ≡ parts_text c.args.position bytes c.in-Some.row.groups.items
    = c.deref-2.ensures.value ∙ c.in_ok-text.ensures ∙ (λ i. parts_text (c.position.view_is i) bytes (c.deref.ensures.value i)) in
    told_one c.args.self.now after c.in-Some.row c.args.position (g.L.Sink.written c.args.log.now) (g.L.Sink.written c.put_all.new.to)
    c.in-Some.ensures c.in-Some-Some.ensures.1 c.in-Some-Some.ensures'.sum (omega arith) c.in-Some-Some.ensures'.wide
    (subst (Appends (g.L.Sink.written c.args.log.now) (g.L.Sink.written c.put_all.new.to)) text c.in_ok-put_all.ensures.all)
