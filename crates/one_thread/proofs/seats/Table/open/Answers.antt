use Rattle.std.proofs.Common.{◌≡◌, ◌<◌, ◌∙◌, ap, sym, subst, map, cond, count_by, unwrap_or, arith, rules}
use Rattle.std.specs.Prelude.{slice_get}
use Rattle.std.specs.Vec.{with_items}
use Rattle.std.proofs.lemmas.Bool.{lt-leb}
use Rattle.std.proofs.lemmas.List.{with_items_is}
use Rattle.ended_seats.specs.Idle.{IdleOver, Walks}
use Rattle.task_ast.specs.Table.{waits_at}
use Rattle.task_ast.specs.Turn.{released_at}
use Rattle.one_thread.specs.View.{table_of, seat_of, onward_of}
use Rattle.ended_seats.proofs.Walks.{released_as, waits_most}
use Rattle.one_thread.proofs.Sleepers.{no-way}
use Rattle.one_thread.proofs.seats.Table.open.Goals as goal

pub returns-then-self-stated-clause-table : goal.returns-then-self-stated-clause-table
returns-then-self-stated-clause-table c =
    let self = c.args.self.now in
    let few = waits_most c.args.barrier (map seat_of self.seats.items) self.waits c.requires.walks.walks.few in
    let is : c.stated-stated.result ≡ unwrap_or (slice_get self.barriers.items c.args.barrier) 0 = search rules in
    let less : self.waits < c.stated-stated.result = search rules in
    sym (ap (λ all. cond all (record (table_of self) { seats = map (released_at c.args.barrier) (map seat_of self.seats.items) }) (table_of self))
    (lt-leb _ _ (omega (arith, few, is, less))))

pub waiting-there-requires : goal.waiting-there-requires
waiting-there-requires c = record {
  idle = subst (λ xs. IdleOver (map onward_of xs) (map seat_of xs)) (sym c.deref-2.ensures.value) c.requires.walks.walks.idle;
}

pub release-requires : goal.release-requires
release-requires c = record {
  idle = subst (λ xs. IdleOver (map onward_of xs) (map seat_of xs)) (sym c.deref_mut.ensures.value) c.requires.walks.walks.idle;
}

pub returns-then-stated-there-clause-walks : goal.returns-then-stated-there-clause-walks
returns-then-stated-there-clause-walks c =
    let self = c.args.self.now in
    let same = with_items_is self.seats c.release.new.seats (search rules) in
    let seats : map seat_of c.release.new.seats ≡ map (released_at c.args.barrier) (map seat_of self.seats.items) = search rules in
    let ways : map onward_of c.release.new.seats ≡ map onward_of self.seats.items = search rules in
    let number : c.waiting-there.result ≡ count_by (waits_at c.args.barrier) (map seat_of self.seats.items) = search rules in
    record {
      walks =
          subst (λ most. Walks (map onward_of (with_items self.seats c.release.new.seats).items) self.passed.first self.passed.last most
          (map seat_of (with_items self.seats c.release.new.seats).items)) (sym c.saturating_sub-self.ensures)
          (released_as seat_of onward_of self.seats.items (with_items self.seats c.release.new.seats).items self.passed.first self.passed.last
          self.waits c.args.barrier c.waiting-there.result (ap (map seat_of) same ∙ seats) (ap (map onward_of) same ∙ ways) number
          c.requires.walks.walks);
      start = search rules;
      sleep = no-way _ _ (search rules);
    }
