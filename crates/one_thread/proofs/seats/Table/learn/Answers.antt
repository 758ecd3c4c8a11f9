use Rattle.std.proofs.Common.{◌≡◌, ◌∙◌, inl, ap, sym, refl, subst, map, Some, arith, rules}
use Rattle.std.specs.Vec.{with_items}
use Rattle.std.proofs.lemmas.List.{with_items_is}
use Rattle.ended_seats.specs.Idle.{IdleOver, Uncovered}
use Rattle.one_thread.specs.inner.Sleeping.{SleepOver}
use Rattle.one_thread.specs.View.{table_of, seat_of, onward_of}
use Rattle.task_ast.proofs.Looks.{get-at}
use Rattle.task_ast.proofs.ChangedSeats.{map-replaced}
use Rattle.task_ast.specs.meaning.Table.{with_nth}
use Rattle.ended_seats.proofs.Walks.{put, same_as}
use Rattle.one_thread.proofs.Sleepers.{put-uncrossed}
use Rattle.one_thread.proofs.seats.Table.learn.Goals as goal

pub uncover-requires-clause-idle : goal.uncover-requires-clause-idle
uncover-requires-clause-idle c =
    subst (λ xs. IdleOver (map onward_of xs) (map seat_of xs)) (sym c.deref_mut.ensures.value) c.requires.walks.walks.idle

pub returns-clause-table : goal.returns-clause-table
returns-clause-table c =
    let items = (with_items c.args.self.now.seats c.uncover.new.seats).items in
    let same = with_items_is c.args.self.now.seats c.uncover.new.seats (search rules) in
    let seats : map seat_of c.uncover.new.seats ≡ map seat_of c.args.self.now.seats.items = search rules in
    ap (λ ss. record (table_of c.args.self.now) { seats = ss })
    (map-replaced seat_of items c.args.t (λ s. record s { next = Some c.args.next }) c.index_mut.result.now _
    (get-at items c.args.t c.index_mut.result.now (search rules) c.index_mut.ensures.value) refl
    ∙ ap (λ ss. with_nth ss c.args.t (λ s. record s { next = Some c.args.next })) (ap (map seat_of) same ∙ seats))

pub returns-clause-walks : goal.returns-clause-walks
returns-clause-walks c =
    let self = c.args.self.now in
    let items = (with_items self.seats c.uncover.new.seats).items in
    let same = with_items_is self.seats c.uncover.new.seats (search rules) in
    let seats : map seat_of c.uncover.new.seats ≡ map seat_of self.seats.items = search rules in
    let old : map seat_of c.deref_mut.result.now ≡ map seat_of self.seats.items = ap (map seat_of) c.deref_mut.ensures.value in
    record {
      walks =
          put seat_of onward_of items c.args.t c.index_mut.result.now _ self.passed.first self.passed.last self.waits _ _ _
          (get-at items c.args.t c.index_mut.result.now (search rules) c.index_mut.ensures.value)
          (subst (λ xs. Uncovered (map onward_of xs) c.args.t) (sym same) c.uncover.ensures.uncovered) refl (λ u a b. (a, b)) (λ e. inl e)
          (λ n a b. omega (arith, a))
          (same_as seat_of onward_of self.seats.items items self.passed.first self.passed.last self.waits (ap (map seat_of) same ∙ seats)
          (subst (λ xs. IdleOver (map onward_of xs) (map seat_of self.seats.items)) (sym same)
          (subst (IdleOver (map onward_of c.uncover.new.seats)) old c.uncover.ensures.idle)) c.requires.walks.walks);
      start = search rules;
      sleep =
          put-uncrossed seat_of c.wake.new.ways.items items c.args.t c.index_mut.result.now _
          (get-at items c.args.t c.index_mut.result.now (search rules) c.index_mut.ensures.value) c.wake.ensures.uncrossed
          (subst (λ xs. SleepOver c.wake.new.ways.items (map seat_of xs)) c.deref.ensures.value c.wake.ensures.sleep);
    }
