use Rattle.std.proofs.Common.{◌∙◌, ap, sym}
use Rattle.whole_run.specs.inner.Kept.{batch_in}
use Rattle.whole_run.proofs.Options.{none_some}
use Rattle.whole_run.proofs.Detected.{attempts-few, restarts-few, copies-home, cut-there, cut-issued, cut-room, from-cut-there, did-restart, kept-rolled}
use Rattle.whole_run.proofs.parts.detecting.roll_back.Goals as goal

pub unreachable-requires : goal.unreachable-requires
unreachable-requires c =
    none_some
    (sym c.in_default.is
    ∙ (c.open_cut.ensures
    ∙ cut-there (batch_in c.args.plan.now) c.args.parts.now c.requires.kept c.args.struck c.requires.is_struck c.args.every
    c.requires.rolls))

pub restored-requires : goal.restored-requires
restored-requires c =
    copies-home (batch_in c.args.plan.now) c.args.parts.now c.requires.kept c.args.struck c.requires.is_struck c.args.every c.requires.rolls

pub raise_from-requires-clause-issued : goal.raise_from-requires-clause-issued
raise_from-requires-clause-issued c =
    cut-issued (batch_in c.args.plan.now) c.args.parts.now c.requires.kept c.args.struck c.requires.is_struck c.args.every c.requires.rolls
    c.in-Some.cut (sym c.open_cut.ensures ∙ c.in-Some.is)

pub raise_from-requires-clause-attempts : goal.raise_from-requires-clause-attempts
raise_from-requires-clause-attempts c =
    attempts-few (batch_in c.args.plan.now) c.args.parts.now c.requires.kept c.args.struck c.requires.is_struck c.args.plan.now.faults.few

pub raise_from-requires-clause-there : goal.raise_from-requires-clause-there
raise_from-requires-clause-there c =
    from-cut-there (batch_in c.args.plan.now) c.args.parts.now c.requires.kept c.args.struck c.requires.is_struck c.args.every
    c.requires.rolls c.in-Some.cut (sym c.open_cut.ensures ∙ c.in-Some.is)

pub raise_from-requires-clause-room : goal.raise_from-requires-clause-room
raise_from-requires-clause-room c =
    cut-room (batch_in c.args.plan.now) c.args.parts.now c.requires.kept c.args.struck c.requires.is_struck c.args.every c.requires.rolls
    c.in-Some.cut (sym c.open_cut.ensures ∙ c.in-Some.is) c.args.redo.spare c.requires.rooms.positions

pub note-requires-clause-few : goal.note-requires-clause-few
note-requires-clause-few c =
    restarts-few (batch_in c.args.plan.now) c.args.parts.now c.requires.kept c.args.struck c.requires.is_struck c.args.plan.now.faults.few

pub returns-clause-kept : goal.returns-clause-kept
returns-clause-kept c =
    kept-rolled (batch_in c.args.plan.now) c.args.parts.now c.requires.kept c.args.struck c.requires.is_struck c.args.every c.requires.rolls
    c.in-Some.cut (sym c.open_cut.ensures ∙ c.in-Some.is) c.requires.home c.raise_from.new.rol.entries c.put_back.new.store
    c.in_ok-copy.copy c.drop_after.new.backup _ c.note.new.events.items c.note.new.restarts.items c.attempt_of-attempt.result
    c.raise_from.new.redo.items (rw c.len.ensures at c.in_ok-copy.ensures) c.put_back.ensures c.drop_after.ensures
    (ap (λ n. record c.drop_after.new.backup { whole = n }) c.min-parts.ensures) c.attempt_of-attempt.ensures c.raise_from.ensures
    c.note.ensures.events (rw c.into_seq.ensures at c.note.ensures.restarts)

pub returns-clause-did : goal.returns-clause-did
returns-clause-did c =
    did-restart (batch_in c.args.plan.now) c.args.parts.now c.requires.kept c.args.struck c.requires.is_struck c.requires.home
    c.note.new.events.items c.note.ensures.events
