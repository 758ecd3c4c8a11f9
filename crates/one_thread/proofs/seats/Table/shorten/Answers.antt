use Rattle.std.proofs.Common.{◌<◌, ap, sym, subst, refl, length, map, arith, rules}
use Rattle.std.proofs.lemmas.List.{length-map}
use Rattle.one_thread.specs.inner.Sleeping.{SleepOver}
use Rattle.one_thread.specs.View.{table_of, seat_of, onward_of}
use Rattle.task_ast.proofs.Looks.{get-at}
use Rattle.ended_seats.proofs.Idle.{idle_within}
use Rattle.ended_seats.proofs.Walks.{map-kept, shortened}
use Rattle.one_thread.proofs.seats.Table.shorten.Goals as goal
use Rattle.one_thread.proofs.seats.Table.shorten.Goals.{Then-from-busy}

-- the thread is there, since it is idle
there : (c : Then-from-busy) → c.args.from < length c.args.self.now.seats.items
there c =
    let less : c.args.from < c.first_busy-busy.result = search rules in
    subst (λ n. c.args.from < n) (length-map c.args.self.now.seats.items seat_of)
    (idle_within (map seat_of c.args.self.now.seats.items) c.args.from (c.first_busy-busy.ensures c.args.from (omega arith) less))

pub returns-then-from-busy-clause-table : goal.returns-then-from-busy-clause-table
returns-then-from-busy-clause-table c =
    let items = c.args.self.now.seats.items in
    let seat = c.index_mut.result.now in
    ap (λ ss. record (table_of c.args.self.now) { seats = ss })
    (map-kept seat_of items c.args.from seat _
    (get-at items c.args.from seat (there (goal.at.returns-then-from-busy-clause-table c).Then-from-busy) c.index_mut.ensures.value) refl)

pub returns-then-from-busy-clause-walks : goal.returns-then-from-busy-clause-walks
returns-then-from-busy-clause-walks c =
    let self = c.args.self.now in
    let seat = c.index_mut.result.now in
    record {
      walks =
          shortened seat_of onward_of self.seats.items c.args.from seat _ self.passed.first self.passed.last self.waits
          (get-at self.seats.items c.args.from seat (there (goal.at.returns-then-from-busy-clause-walks c).Then-from-busy)
          c.index_mut.ensures.value) refl c.first_busy-busy.ensures c.requires.walks.walks;
      start = search rules;
      sleep =
          subst (SleepOver self.ways.items)
          (sym (map-kept seat_of self.seats.items c.args.from seat _
          (get-at self.seats.items c.args.from seat (there (goal.at.returns-then-from-busy-clause-walks c).Then-from-busy)
          c.index_mut.ensures.value) refl)) c.requires.walks.sleep;
    }
