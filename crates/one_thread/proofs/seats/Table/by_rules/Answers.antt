use Rattle.std.proofs.Common.{◌∙◌, refl, sym, ap, rules, w64, SFits}
use Rattle.std.proofs.lemmas.Int.{to_z-of_z}
use Rattle.gp_base.specs.declared.ending.End.TheVariants.{Spent}
use Rattle.task_ast.specs.declared.sync.SyncOp.TheVariants as sync
use Rattle.task_ast.specs.meaning.Repeat.{Done}
use Rattle.task_ast.specs.Turn.{tried, issuing, Ended}
use Rattle.one_thread.specs.View.{table_of, seat_of}
use Rattle.task_ast.proofs.SeenSeats.{turn-tries, next-at, last-at}
use Rattle.one_thread.proofs.Looking.{seen-get}
use Rattle.one_thread.proofs.Stops.{turn-ends, turn-needs, by-deadlock}
use Rattle.one_thread.proofs.Turning.{by-rule, by-line, by-fork, by-end, tried-issues}
use Rattle.one_thread.proofs.seats.Table.by_rules.Goals as goal

pub returns-in_default-sync-clause-turn : goal.returns-in_default-sync-clause-turn
returns-in_default-sync-clause-turn c =
    let at =
    seen-get c.args.self.now _ c.in-Some.t c.in-Some-get.seat.now c.deref.ensures.value c.in-Some-get.ensures.lookup.0
    c.in-Some-get.ensures.lookup.1 in
    let no = c.in_default-sync in
    by-rule c.issue.result c.args.self.now c.issue.new.self c.in-Some.t c.in-Some-next.next
    (λ n. issuing (table_of c.args.self.now) c.in-Some.t n)
    (turn-tries (table_of c.args.self.now) c.in-Some.t (seat_of c.in-Some-get.seat.now) c.in-Some-next.next
    c.in-Some-next.next.sync c.in-Some.ensures.found at c.in-Some-next.is c.if-seat.false refl
    ∙ tried-issues c.in-Some-next.next.sync (table_of c.args.self.now) c.in-Some.t c.in-Some-next.next no.not-Lock no.not-Fork no.not-Join
    no.not-Barrier no.not-BadIndex no.not-Spent)
    (next-at (table_of c.args.self.now) c.in-Some.t (seat_of c.in-Some-get.seat.now) at ∙ c.in-Some-next.is) c.issue.ensures.turn

pub returns-in-Barrier-clause-turn : goal.returns-in-Barrier-clause-turn
returns-in-Barrier-clause-turn c =
    let at =
    seen-get c.args.self.now _ c.in-Some.t c.in-Some-get.seat.now c.deref.ensures.value c.in-Some-get.ensures.lookup.0
    c.in-Some-get.ensures.lookup.1 in
    by-rule c.meet.result c.args.self.now c.meet.new.self c.in-Some.t c.in-Some-next.next
    (λ n. tried (sync.Barrier c.in-Barrier.barrier) (table_of c.args.self.now) c.in-Some.t n)
    (turn-tries (table_of c.args.self.now) c.in-Some.t (seat_of c.in-Some-get.seat.now) c.in-Some-next.next
    (sync.Barrier c.in-Barrier.barrier) c.in-Some.ensures.found at c.in-Some-next.is c.if-seat.false c.in-Barrier.is)
    (next-at (table_of c.args.self.now) c.in-Some.t (seat_of c.in-Some-get.seat.now) at ∙ c.in-Some-next.is) c.meet.ensures.turn

pub returns-in-Join-clause-turn : goal.returns-in-Join-clause-turn
returns-in-Join-clause-turn c =
    let at =
    seen-get c.args.self.now _ c.in-Some.t c.in-Some-get.seat.now c.deref.ensures.value c.in-Some-get.ensures.lookup.0
    c.in-Some-get.ensures.lookup.1 in
    let fits : SFits w64 c.in-Join.h = search rules in
    by-line c.join.result c.args.self.now c.join.new.self c.in-Some.t c.in-Some-next.next
    (λ n. tried (sync.Join c.in-Join.h) (table_of c.args.self.now) c.in-Some.t n)
    (turn-tries (table_of c.args.self.now) c.in-Some.t (seat_of c.in-Some-get.seat.now) c.in-Some-next.next
    (sync.Join c.in-Join.h) c.in-Some.ensures.found at c.in-Some-next.is c.if-seat.false c.in-Join.is)
    (next-at (table_of c.args.self.now) c.in-Some.t (seat_of c.in-Some-get.seat.now) at ∙ c.in-Some-next.is)
    (simp to_z-of_z at c.join.ensures.turn)

pub returns-in-Fork-clause-turn : goal.returns-in-Fork-clause-turn
returns-in-Fork-clause-turn c =
    let at =
    seen-get c.args.self.now _ c.in-Some.t c.in-Some-get.seat.now c.deref.ensures.value c.in-Some-get.ensures.lookup.0
    c.in-Some-get.ensures.lookup.1 in
    by-fork c.fork.result c.args.self.now c.fork.new.self c.in-Some.t c.in-Some-next.next c.in-Fork.task c.in-Fork.args
    (turn-tries (table_of c.args.self.now) c.in-Some.t (seat_of c.in-Some-get.seat.now) c.in-Some-next.next
    (sync.Fork c.in-Fork.task c.in-Fork.args) c.in-Some.ensures.found at c.in-Some-next.is c.if-seat.false c.in-Fork.is)
    (next-at (table_of c.args.self.now) c.in-Some.t (seat_of c.in-Some-get.seat.now) at ∙ c.in-Some-next.is) c.fork.ensures.turn

pub returns-in-BadIndex-clause-turn : goal.returns-in-BadIndex-clause-turn
returns-in-BadIndex-clause-turn c =
    let at =
    seen-get c.args.self.now _ c.in-Some.t c.in-Some-get.seat.now c.deref.ensures.value c.in-Some-get.ensures.lookup.0
    c.in-Some-get.ensures.lookup.1 in
    by-end c.stuck.result c.args.self.now _
    (turn-tries (table_of c.args.self.now) c.in-Some.t (seat_of c.in-Some-get.seat.now) c.in-Some-next.next
    sync.BadIndex c.in-Some.ensures.found at c.in-Some-next.is
    c.if-seat.false c.in-BadIndex.is)
    c.stuck.ensures

pub returns-in-Spent-clause-turn : goal.returns-in-Spent-clause-turn
returns-in-Spent-clause-turn c =
    let at =
    seen-get c.args.self.now _ c.in-Some.t c.in-Some-get.seat.now c.deref.ensures.value c.in-Some-get.ensures.lookup.0
    c.in-Some-get.ensures.lookup.1 in
    (turn-tries (table_of c.args.self.now) c.in-Some.t (seat_of c.in-Some-get.seat.now) c.in-Some-next.next
    sync.Spent c.in-Some.ensures.found at c.in-Some-next.is
    c.if-seat.false c.in-Spent.is)
    ∙ ap (λ p. Done (Ended (Spent p))) (last-at (table_of c.args.self.now) c.in-Some.t
    (seat_of c.in-Some-get.seat.now) at ∙ sym c.unwrap_or-last.ensures)

pub returns-in_default-clause-turn : goal.returns-in_default-clause-turn
returns-in_default-clause-turn c = turn-ends (table_of c.args.self.now) c.in_default.ensures.found

pub returns-in_default-next-clause-turn : goal.returns-in_default-next-clause-turn
returns-in_default-next-clause-turn c =
    let at =
    seen-get c.args.self.now _ c.in-Some.t c.in-Some-get.seat.now c.deref.ensures.value c.in-Some-get.ensures.lookup.0
    c.in-Some-get.ensures.lookup.1 in
    turn-needs (table_of c.args.self.now) c.in-Some.t (seat_of c.in-Some-get.seat.now) c.in-Some.ensures.found at c.in_default-next.is

pub returns-then-seat-clause-turn : goal.returns-then-seat-clause-turn
returns-then-seat-clause-turn c =
    let at =
    seen-get c.args.self.now _ c.in-Some.t c.in-Some-get.seat.now c.deref.ensures.value c.in-Some-get.ensures.lookup.0
    c.in-Some-get.ensures.lookup.1 in
    by-deadlock c.deadlock.result (table_of c.args.self.now) c.in-Some.t (seat_of c.in-Some-get.seat.now) c.in-Some-next.next
    c.in-Some.ensures.found at c.in-Some-next.is c.if-seat.true c.deadlock.ensures
