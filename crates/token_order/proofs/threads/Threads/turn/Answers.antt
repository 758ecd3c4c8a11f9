use Rattle.std.proofs.Common.{◌≡◌, ◌∙◌, sym, ap, refl, rules, Some, w64, SFits}
use Rattle.std.proofs.lemmas.Int.{to_z-of_z}
use Rattle.gp_base.specs.declared.ending.End.TheVariants as ends
use Rattle.task_ast.specs.declared.sync.SyncOp.TheVariants as sync
use Rattle.task_ast.specs.declared.sync.Next.{Next}
use Rattle.task_ast.specs.meaning.Repeat.{Done}
use Rattle.task_ast.specs.Table.{next_of}
use Rattle.task_ast.specs.Turn.{Ended, tried}
use Rattle.token_order.specs.View.{table, seat_of}
use Rattle.token_order.specs.Turned.{Answered}
use Rattle.task_ast.proofs.SeenSeats.{turn-tries, next-at, last-at}
use Rattle.token_order.proofs.Turning.{by, seen}
use Rattle.token_order.proofs.threads.Threads.turn.Goals as goal
use Rattle.token_order.proofs.threads.Threads.turn.Goals.{After-join}

pub returns-in-Start-clause-answer : goal.returns-in-Start-clause-answer
returns-in-Start-clause-answer c =
    let at = seen c.args.self.now c.in-Some.t c.index-seat.result.now c.in-Some.ensures.below c.index-seat.ensures in
    by (table c.args.self.now) (table c.issue.new.self) c.issue.result
    (turn-tries (table c.args.self.now) c.in-Some.t (seat_of c.index-seat.result.now) c.in-Some-next.next
    sync.Start c.in-Some.ensures.found at
    c.in-Some-next.is c.if-seat.false c.in-Start.is)
    (c.issue.ensures.answer c.in-Some-next.next
    (next-at (table c.args.self.now) c.in-Some.t (seat_of c.index-seat.result.now) at ∙ c.in-Some-next.is))

pub returns-in-Lock-clause-answer : goal.returns-in-Lock-clause-answer
returns-in-Lock-clause-answer c =
    let at = seen c.args.self.now c.in-Some.t c.index-seat.result.now c.in-Some.ensures.below c.index-seat.ensures in
    by (table c.args.self.now) (table c.lock.new.self) c.lock.result
    (turn-tries (table c.args.self.now) c.in-Some.t (seat_of c.index-seat.result.now) c.in-Some-next.next
    (sync.Lock c.cell.inside.0) c.in-Some.ensures.found at c.in-Some-next.is c.if-seat.false
    (c.in-Lock.is ∙ ap sync.Lock (sym c.cell.view_is)))
    (c.lock.ensures.answer c.in-Some-next.next
    (next-at (table c.args.self.now) c.in-Some.t (seat_of c.index-seat.result.now) at ∙ c.in-Some-next.is))

pub returns-in-Unlock-clause-answer : goal.returns-in-Unlock-clause-answer
returns-in-Unlock-clause-answer c =
    let at = seen c.args.self.now c.in-Some.t c.index-seat.result.now c.in-Some.ensures.below c.index-seat.ensures in
    by (table c.args.self.now) (table c.issue-in-Unlock.new.self) c.issue-in-Unlock.result
    (turn-tries (table c.args.self.now) c.in-Some.t (seat_of c.index-seat.result.now) c.in-Some-next.next
    (sync.Unlock c.in-Unlock.field-0) c.in-Some.ensures.found at c.in-Some-next.is c.if-seat.false c.in-Unlock.is)
    (c.issue-in-Unlock.ensures.answer c.in-Some-next.next
    (next-at (table c.args.self.now) c.in-Some.t (seat_of c.index-seat.result.now) at ∙ c.in-Some-next.is))

pub returns-in-Fork-clause-answer : goal.returns-in-Fork-clause-answer
returns-in-Fork-clause-answer c =
    let at = seen c.args.self.now c.in-Some.t c.index-seat.result.now c.in-Some.ensures.below c.index-seat.ensures in
    by (table c.args.self.now) (table c.fork.new.self) c.fork.result
    (turn-tries (table c.args.self.now) c.in-Some.t (seat_of c.index-seat.result.now) c.in-Some-next.next
    (sync.Fork c.in-Fork.task c.in-Fork.args) c.in-Some.ensures.found at c.in-Some-next.is c.if-seat.false c.in-Fork.is)
    (c.fork.ensures.answer c.in-Some-next.next c.in-Fork.task c.in-Fork.args
    (next-at (table c.args.self.now) c.in-Some.t (seat_of c.index-seat.result.now) at ∙ c.in-Some-next.is) refl)

joins : (c : After-join) (next : Next) → next_of (table c.args.self.now) c.in-Some.t ≡ Some next → next.line ≡ c.in-Some-next.next.line
    → Answered (tried (sync.Join c.in-Join.h) (table c.args.self.now) c.in-Some.t next)
    (table c.args.self.now) c.join.result (table c.join.new.self)
joins c next e l = let fits : SFits w64 c.in-Join.h = search rules in simp to_z-of_z at (c.join.ensures.answer next e l)

pub returns-in-Join-clause-answer : goal.returns-in-Join-clause-answer
returns-in-Join-clause-answer c =
    let at = seen c.args.self.now c.in-Some.t c.index-seat.result.now c.in-Some.ensures.below c.index-seat.ensures in
    by (table c.args.self.now) (table c.join.new.self) c.join.result
    (turn-tries (table c.args.self.now) c.in-Some.t (seat_of c.index-seat.result.now) c.in-Some-next.next
    (sync.Join c.in-Join.h) c.in-Some.ensures.found at c.in-Some-next.is c.if-seat.false c.in-Join.is)
    (joins c c.in-Some-next.next (next-at (table c.args.self.now) c.in-Some.t (seat_of c.index-seat.result.now) at
    ∙ c.in-Some-next.is) refl)

pub returns-in-Barrier-clause-answer : goal.returns-in-Barrier-clause-answer
returns-in-Barrier-clause-answer c =
    let at = seen c.args.self.now c.in-Some.t c.index-seat.result.now c.in-Some.ensures.below c.index-seat.ensures in
    by (table c.args.self.now) (table c.meet.new.self) c.meet.result
    (turn-tries (table c.args.self.now) c.in-Some.t (seat_of c.index-seat.result.now) c.in-Some-next.next
    (sync.Barrier c.in-Barrier.barrier) c.in-Some.ensures.found at c.in-Some-next.is c.if-seat.false c.in-Barrier.is)
    (c.meet.ensures.answer c.in-Some-next.next
    (next-at (table c.args.self.now) c.in-Some.t (seat_of c.index-seat.result.now) at ∙ c.in-Some-next.is) c.in-Barrier.is)

pub returns-in-Settle-clause-answer : goal.returns-in-Settle-clause-answer
returns-in-Settle-clause-answer c =
    let at = seen c.args.self.now c.in-Some.t c.index-seat.result.now c.in-Some.ensures.below c.index-seat.ensures in
    by (table c.args.self.now) (table c.issue-in-Settle.new.self) c.issue-in-Settle.result
    (turn-tries (table c.args.self.now) c.in-Some.t (seat_of c.index-seat.result.now) c.in-Some-next.next
    (sync.Settle c.in-Settle.reg c.in-Settle.ctl) c.in-Some.ensures.found at c.in-Some-next.is c.if-seat.false c.in-Settle.is)
    (c.issue-in-Settle.ensures.answer c.in-Some-next.next
    (next-at (table c.args.self.now) c.in-Some.t (seat_of c.index-seat.result.now) at ∙ c.in-Some-next.is))

pub returns-in-End-clause-answer : goal.returns-in-End-clause-answer
returns-in-End-clause-answer c =
    let at = seen c.args.self.now c.in-Some.t c.index-seat.result.now c.in-Some.ensures.below c.index-seat.ensures in
    by (table c.args.self.now) (table c.issue-in-End.new.self) c.issue-in-End.result
    (turn-tries (table c.args.self.now) c.in-Some.t (seat_of c.index-seat.result.now) c.in-Some-next.next
    sync.End c.in-Some.ensures.found at
    c.in-Some-next.is c.if-seat.false c.in-End.is)
    (c.issue-in-End.ensures.answer c.in-Some-next.next
    (next-at (table c.args.self.now) c.in-Some.t (seat_of c.index-seat.result.now) at ∙ c.in-Some-next.is))

pub returns-in-BadIndex-clause-answer : goal.returns-in-BadIndex-clause-answer
returns-in-BadIndex-clause-answer c =
    let at = seen c.args.self.now c.in-Some.t c.index-seat.result.now c.in-Some.ensures.below c.index-seat.ensures in
    rw (c.stuck.ensures) (
      (turn-tries (table c.args.self.now) c.in-Some.t (seat_of c.index-seat.result.now) c.in-Some-next.next sync.BadIndex
          c.in-Some.ensures.found at c.in-Some-next.is c.if-seat.false c.in-BadIndex.is),
      refl,
    )

pub returns-in-Spent-clause-answer : goal.returns-in-Spent-clause-answer
returns-in-Spent-clause-answer c =
    let at = seen c.args.self.now c.in-Some.t c.index-seat.result.now c.in-Some.ensures.below c.index-seat.ensures in (
      (turn-tries (table c.args.self.now) c.in-Some.t (seat_of c.index-seat.result.now) c.in-Some-next.next
          sync.Spent c.in-Some.ensures.found at
          c.in-Some-next.is c.if-seat.false c.in-Spent.is)
          ∙ ap (λ p. Done (Ended (ends.Spent p)))
          (last-at (table c.args.self.now) c.in-Some.t (seat_of c.index-seat.result.now) at ∙ sym c.last_of-last.ensures),
      refl,
    )
