use Rattle.std.proofs.Common.{◌∙◌, sym, ap}
use Rattle.task_ast.specs.meaning.Turn.{is_away}
use Rattle.token_order.specs.View.{table, seat_of, stand_view}
use Rattle.task_ast.proofs.SeenSeats.{stand-at}
use Rattle.token_order.proofs.Turning.{by, seen}
use Rattle.token_order.proofs.Barriers.{free_goes, still_waits, is_away_so}
use Rattle.token_order.proofs.threads.Threads.meet.Goals as goal

pub returns-then-is_released-clause-answer : goal.returns-then-is_released-clause-answer
returns-then-is_released-clause-answer c next known is =
    let at = seen c.args.self.now c.args.t c.index.result.now c.requires.exists c.index.ensures in
    by (table c.args.self.now) (table c.issue.new.self) c.issue.result
    (free_goes (table c.args.self.now) c.args.t c.args.barrier next (stand_view c.index.result.now.stand)
    (stand-at (table c.args.self.now) c.args.t (seat_of c.index.result.now) at) (sym c.is_released.ensures ∙ c.if-is_released.true))
    (c.issue.ensures.answer next known)

pub returns-then-is_away-clause-answer : goal.returns-then-is_away-clause-answer
returns-then-is_away-clause-answer c next known is =
    let at = seen c.args.self.now c.args.t c.index-2.result.now c.requires.exists c.index-2.ensures in
    c.come.ensures.answer next known is
    (stand-at (table c.args.self.now) c.args.t (seat_of c.index-2.result.now) at
    ∙ is_away_so (stand_view c.index-2.result.now.stand) (sym c.is_away.ensures ∙ c.if-is_away.true))

pub returns-clause-answer : goal.returns-clause-answer
returns-clause-answer c next known is =
    let at = seen c.args.self.now c.args.t c.index.result.now c.requires.exists c.index.ensures in
    let again = seen c.args.self.now c.args.t c.index-2.result.now c.requires.exists c.index-2.ensures in
    still_waits (table c.args.self.now) c.args.t c.args.barrier next (stand_view c.index.result.now.stand)
    (stand-at (table c.args.self.now) c.args.t (seat_of c.index.result.now) at) (sym c.is_released.ensures ∙ c.if-is_released.false)
    (ap is_away (sym (stand-at (table c.args.self.now) c.args.t (seat_of c.index.result.now) at)
    ∙ stand-at (table c.args.self.now) c.args.t (seat_of c.index-2.result.now) again) ∙ sym c.is_away.ensures ∙ c.if-is_away.false)
    ∙ c.pass.ensures.passes
