use Rattle.std.proofs.Common.{sym, ap, refl, true, inr, Some, arith, rules}
use Rattle.task_ast.specs.meaning.Repeat.{More}
use Rattle.task_ast.proofs.Looks.{get-at}
use Rattle.task_ast.proofs.ChangedSeats.{map-replaced}
use Rattle.one_thread.specs.View.{table_of, seat_of, onward_of}
use Rattle.one_thread.proofs.Looking.{token-is}
use Rattle.ended_seats.proofs.Walks.{put_live}
use Rattle.one_thread.proofs.Sleepers.{put-asleep}
use Rattle.one_thread.proofs.seats.Table.pass.Goals as goal

pub returns-clause-turn : goal.returns-clause-turn
returns-clause-turn c =
    rw (token-is c.args.t) (ap (λ ss. More (record (table_of c.args.self.now) { seats = ss; token = Some c.args.t }))
    (sym (map-replaced seat_of c.args.self.now.seats.items c.args.t (λ s. record s { passed = true }) c.index_mut.result.now _
    (get-at c.args.self.now.seats.items c.args.t c.index_mut.result.now c.requires.exists c.index_mut.ensures.value) refl)))

pub returns-clause-walks : goal.returns-clause-walks
returns-clause-walks c =
    record {
      walks =
          put_live seat_of onward_of c.args.self.now.seats.items c.args.t c.index_mut.result.now _ c.args.self.now.passed.first
          c.args.self.now.passed.last c.args.self.now.waits _ _ c.args.self.now.waits
          (get-at c.args.self.now.seats.items c.args.t c.index_mut.result.now c.requires.exists c.index_mut.ensures.value) c.requires.live refl
          c.with-self.ensures.wider (λ e. inr c.with-self.ensures.thread) (λ n a b. omega (arith, a)) c.requires.walks.walks;
      start = search rules;
      sleep =
          put-asleep seat_of c.args.self.now.ways.items c.args.self.now.seats.items c.args.t c.index_mut.result.now
          (record c.index_mut.result.now { passed = true })
          (get-at c.args.self.now.seats.items c.args.t c.index_mut.result.now c.requires.exists c.index_mut.ensures.value) (λ e. e)
          c.requires.walks.sleep;
    }
