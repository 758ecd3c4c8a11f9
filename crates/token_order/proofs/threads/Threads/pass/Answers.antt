use Rattle.std.proofs.Common.{sym, ap, refl, true, inr, Some, arith}
use Rattle.task_ast.specs.meaning.Repeat.{More}
use Rattle.token_order.specs.View.{table, seat_of, onward_of}
use Rattle.task_ast.proofs.Looks.{get-at}
use Rattle.task_ast.proofs.ChangedSeats.{map-replaced}
use Rattle.ended_seats.proofs.Walks.{put_live}
use Rattle.token_order.proofs.threads.Threads.pass.Goals as goal

pub returns-clause-passes : goal.returns-clause-passes
returns-clause-passes c =
    ap (λ ss. More (record (table c.args.self.now) { seats = ss; token = Some c.args.t }))
    (sym (map-replaced seat_of c.args.self.now.seats.items c.args.t (λ s. record s { passed = true }) c.index_mut.result.now _
    (get-at c.args.self.now.seats.items c.args.t c.index_mut.result.now c.requires.exists c.index_mut.ensures.value) refl))

pub returns-clause-walks : goal.returns-clause-walks
returns-clause-walks c =
    put_live seat_of onward_of c.args.self.now.seats.items c.args.t c.index_mut.result.now _ c.args.self.now.passed.first
    c.args.self.now.passed.last c.args.self.now.waits _ _ c.args.self.now.waits
    (get-at c.args.self.now.seats.items c.args.t c.index_mut.result.now c.requires.exists c.index_mut.ensures.value) c.requires.live refl
    c.with-self.ensures.wider (λ e. inr c.with-self.ensures.thread) (λ n a b. omega (arith, a)) c.requires.walks
