use Rattle.std.proofs.Common.{◌+◌, refl, sym, subst}
use Rattle.std.specs.Io.KnownBytes.{Appends}
use Rattle.gp_base.specs.meaning.Sinks.{AppendsPrefix}
use Rattle.restart_log.specs.meaning.Lines.{printed}
use Rattle.whole_run.specs.inner.Backing.{DropsBefore}
use Rattle.whole_run.specs.inner.Kept.{batch_in, view_of}
use Rattle.whole_run.proofs.InOrder.{in-row}
use Rattle.whole_run.proofs.Retired.{none-written, err-writes, not-now, lines-are, gives, made, kept-retired}
use Rattle.whole_run.proofs.parts.retiring.retire.Goals as goal

pub oldest_retires-requires-clause-row : goal.oldest_retires-requires-clause-row
oldest_retires-requires-clause-row g c = in-row _ c.args.parts.now.rol.entries c.requires.kept.window.entries_are.row

pub returns-then-not-oldest_retires-clause-gives : goal.returns-then-not-oldest_retires-clause-gives
returns-then-not-oldest_retires-clause-gives g c = (
  refl,
  not-now (batch_in c.args.plan.now) c.args.parts.now c.requires.kept (sym c.if-not-oldest_retires.ensures),
)

pub returns-in_err-reserve-clause-lines : goal.returns-in_err-reserve-clause-lines
returns-in_err-reserve-clause-lines g c =
    err-writes (view_of (batch_in c.args.plan.now) c.args.parts.now) (g.O.Sink.written c.args.out.now) (g.O.Sink.written c.args.out.now)
    c.from_residual.result c.from_residual.ensures.0
    (none-written (g.O.Sink.written c.args.out.now) _)

pub returns-in_err-write_oldest-clause-lines : goal.returns-in_err-write_oldest-clause-lines
returns-in_err-write_oldest-clause-lines g c =
    err-writes (view_of (batch_in c.args.plan.now) c.args.parts.now) (g.O.Sink.written c.args.out.now)
    (g.O.Sink.written c.write_oldest.new.out) c.from_residual-in_err-write_oldest.result
    c.from_residual-in_err-write_oldest.ensures.0
    (subst (λ lines. AppendsPrefix (g.O.Sink.written c.args.out.now) (g.O.Sink.written c.write_oldest.new.out) (printed lines))
    (lines-are (batch_in c.args.plan.now) c.args.parts.now c.requires.kept (sym c.if-not-oldest_retires.ensures))
    c.in_err-write_oldest.ensures.prefix)

pub returns-clause-kept : goal.returns-clause-kept
returns-clause-kept g c =
    let is = sym c.if-not-oldest_retires.ensures in
    kept-retired (batch_in c.args.plan.now) c.args.parts.now c.requires.kept is c.retire_front-entry.result
    c.retire_front-entry.new.self.entries c.retire_front-entry.ensures.entries
    c.drop_before.new.backup
    (subst (λ p. DropsBefore (p + 1) c.args.parts.now.backup c.drop_before.new.backup) c.position.view_is
    c.drop_before.ensures)
    c.push.new.self.items
    (made (batch_in c.args.plan.now) c.args.parts.now c.requires.kept is c.retire_front-entry.result c.retire_front-entry.new.self.entries
    c.retire_front-entry.ensures.entries
    c.reserve.new.self.items c.push.new.self.items c.reserve.ensures.items c.push.ensures.items)

pub returns-clause-gives : goal.returns-clause-gives
returns-clause-gives g c =
    let is = sym c.if-not-oldest_retires.ensures in
    let events = made (batch_in c.args.plan.now) c.args.parts.now c.requires.kept is c.retire_front-entry.result
    c.retire_front-entry.new.self.entries c.retire_front-entry.ensures.entries
    c.reserve.new.self.items c.push.new.self.items c.reserve.ensures.items c.push.ensures.items in
    gives (batch_in c.args.plan.now) c.args.parts.now c.requires.kept is c.retire_front-entry.result c.retire_front-entry.new.self.entries
    c.retire_front-entry.ensures.entries _
    (λ i. record { batch = batch_in c.args.plan.now; events = events i; ended = c.args.parts.now.ended })

pub returns-clause-lines : goal.returns-clause-lines
returns-clause-lines g c =
    subst (λ lines. Appends (g.O.Sink.written c.args.out.now) (g.O.Sink.written c.write_oldest.new.out) (printed lines))
    (lines-are (batch_in c.args.plan.now) c.args.parts.now c.requires.kept (sym c.if-not-oldest_retires.ensures))
    c.in_ok-write_oldest.ensures.all
