use Rattle.std.proofs.Common.{◌≡◌, ◌≤◌, ◌∙◌, ap, sym, refl, subst, map, length, arith, rules}
use Rattle.std.specs.Vec.{with_items}
use Rattle.std.proofs.lemmas.List.{with_items_is}
use Rattle.ended_seats.specs.Idle.{IdleOver}
use Rattle.one_thread.specs.View.{table_of, seat_of, onward_of}
use Rattle.task_ast.proofs.Looks.{get-at}
use Rattle.task_ast.proofs.SeenSeats.{arrived-is}
use Rattle.one_thread.specs.declared.seats.Stand.TheVariants.{Waits}
use Rattle.task_ast.specs.Table.{unpassed}
use Rattle.ended_seats.proofs.Walks.{arrived_as}
use Rattle.one_thread.proofs.Sleepers.{put-asleep, arrives, cleared-sleep}
use Rattle.one_thread.proofs.seats.Table.come.Goals as goal

pub clear-requires-clause-idle : goal.clear-requires-clause-idle
clear-requires-clause-idle c =
    subst (λ xs. IdleOver (map onward_of xs) (map seat_of xs)) (sym c.deref_mut.ensures.value) c.requires.walks.walks.idle

pub returns-clause-table : goal.returns-clause-table
returns-clause-table c =
    let same = with_items_is c.args.self.now.seats c.clear.new.seats (search rules) in
    ap (λ ss. record (table_of c.args.self.now) { seats = ss })
    (arrived-is seat_of (table_of c.args.self.now) c.args.t c.clear.new.seats
    (with_items c.args.self.now.seats c.clear.new.seats).items c.index_mut.result.now
    (record c.index_mut.result.now { stand = Waits }) same (search rules)
    (get-at (with_items c.args.self.now.seats c.clear.new.seats).items c.args.t c.index_mut.result.now
    (search rules) c.index_mut.ensures.value) refl)

pub returns-clause-walks : goal.returns-clause-walks
returns-clause-walks c =
    let self = c.args.self.now in
    let items = (with_items self.seats c.clear.new.seats).items in
    let same = with_items_is self.seats c.clear.new.seats (search rules) in
    let seats : map seat_of c.clear.new.seats ≡ map unpassed (map seat_of self.seats.items) = search rules in
    let ways : map onward_of c.clear.new.seats ≡ map onward_of self.seats.items = search rules in
    let most : length items ≤ 18446744073709551615 = search rules in
    record {
      walks =
          arrived_as seat_of onward_of self.seats.items items c.args.t c.index_mut.result.now
          (record c.index_mut.result.now { stand = Waits }) self.passed.first self.passed.last self.waits _ _ _
          (ap (map seat_of) same ∙ seats) (ap (map onward_of) same ∙ ways)
          (get-at items c.args.t c.index_mut.result.now (search rules) c.index_mut.ensures.value) c.requires.live refl refl
          (λ n a b. omega (arith, a, b, most, c.saturating_add-self.ensures)) c.requires.walks.walks;
      start = search rules;
      sleep =
          put-asleep seat_of self.ways.items items c.args.t c.index_mut.result.now (record c.index_mut.result.now { stand = Waits })
          (get-at items c.args.t c.index_mut.result.now (search rules) c.index_mut.ensures.value)
          (arrives c.index_mut.result.now.next (seat_of c.index_mut.result.now).stand)
          (cleared-sleep seat_of self.ways.items self.seats.items items (ap (map seat_of) same ∙ seats) c.requires.walks.sleep);
    }
