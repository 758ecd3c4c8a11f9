use Rattle.std.proofs.Common.{◌≡◌, ◌∙◌, ap, sym, subst, map, count_by, rules}
use Rattle.std.specs.Prelude.{slice_get}
use Rattle.std.specs.Option.{option_and_then}
use Rattle.std.specs.Vec.{with_items}
use Rattle.std.proofs.lemmas.List.{with_items_is}
use Rattle.ended_seats.specs.Idle.{IdleOver, Walks}
use Rattle.task_ast.specs.Table.{is_known_end, waits_at}
use Rattle.task_ast.specs.Turn.{released_at}
use Rattle.token_order.specs.View.{seat_of, onward_of}
use Rattle.ended_seats.proofs.Walks.{released_as, released_next}
use Rattle.token_order.proofs.threads.Threads.open.Goals as goal

pub returns-clause-live : goal.returns-clause-live
returns-clause-live c =
    let there = c.arrive.new.self in
    let same = with_items_is there.seats c.release.new.seats (search rules) in
    let seats : map seat_of c.release.new.seats ≡ map (released_at c.args.barrier) (map seat_of there.seats.items) = search rules in
    ap (λ ss. is_known_end (option_and_then (λ s. s.next) (slice_get ss c.args.t))) (ap (map seat_of) same ∙ seats)
    ∙ ap is_known_end (released_next c.args.barrier (map seat_of there.seats.items) c.args.t) ∙ c.arrive.ensures.live

pub returns-clause-walks : goal.returns-clause-walks
returns-clause-walks c =
    let there = c.arrive.new.self in
    let same = with_items_is there.seats c.release.new.seats (search rules) in
    let seats : map seat_of c.release.new.seats ≡ map (released_at c.args.barrier) (map seat_of there.seats.items) = search rules in
    let ways : map onward_of c.release.new.seats ≡ map onward_of there.seats.items = search rules in
    let number : c.waiting-there.result ≡ count_by (waits_at c.args.barrier) (map seat_of there.seats.items) = search rules in
    subst (λ most. Walks (map onward_of (with_items there.seats c.release.new.seats).items) there.passed.first there.passed.last most
    (map seat_of (with_items there.seats c.release.new.seats).items)) (sym c.saturating_sub-self.ensures)
    (released_as seat_of onward_of there.seats.items (with_items there.seats c.release.new.seats).items there.passed.first there.passed.last
    there.waits c.args.barrier c.waiting-there.result (ap (map seat_of) same ∙ seats) (ap (map onward_of) same ∙ ways) number
    c.arrive.ensures.walks)

pub waiting-there-requires : goal.waiting-there-requires
waiting-there-requires c = record {
  idle = subst (λ xs. IdleOver (map onward_of xs) (map seat_of xs)) (sym c.deref.ensures.value) c.arrive.ensures.walks.idle;
}

pub release-requires : goal.release-requires
release-requires c = record {
  idle = subst (λ xs. IdleOver (map onward_of xs) (map seat_of xs)) (sym c.deref_mut.ensures.value) c.arrive.ensures.walks.idle;
}
