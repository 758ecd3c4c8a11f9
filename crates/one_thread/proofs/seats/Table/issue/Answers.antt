use Rattle.std.proofs.Common.{◌≡◌, ◌∙◌, ◌+◌, ap, refl, sym, subst, map, set, arith, rules}
use Rattle.std.specs.Vec.{with_item}
use Rattle.std.proofs.lemmas.List.{with_items_is}
use Rattle.std.proofs.lemmas.Bool.{lt-ltb}
use Rattle.task_ast.proofs.Looks.{get-at}
use Rattle.task_ast.proofs.SeenSeats.{issued-as}
use Rattle.ended_seats.specs.Idle.{IdleOver, PassedWithin, Walks}
use Rattle.one_thread.specs.inner.Sleeping.{SleepOver}
use Rattle.one_thread.specs.View.{table_of, seat_of, onward_of}
use Rattle.one_thread.proofs.Looking.{token-is}
use Rattle.task_ast.specs.Table.{unpassed}
use Rattle.ended_seats.proofs.Walks.{begun_as, cleared_as, issued_as, grown_within}
use Rattle.one_thread.proofs.Sleepers.{put-uncrossed, cleared-sleep, issued-sleep}
use Rattle.one_thread.proofs.seats.Table.issue.Goals as goal
use Rattle.one_thread.proofs.seats.Table.issue.Goals.{After-begin}

pub returns-clause-turn : goal.returns-clause-turn
returns-clause-turn c next e =
    rw (token-is c.args.t)
    (issued-as seat_of (table_of c.args.self.now) c.args.self.now.seats.items c.args.t c.index_mut.result.now c.begin.new.seat next
    c.in-Some.next c.clear.new.seats _ _ _ _ refl
    (get-at c.args.self.now.seats.items c.args.t c.index_mut.result.now c.requires.exists c.index_mut.ensures.value)
    (sym c.begin.ensures.next ∙ c.in-Some.is)
    c.begin.ensures.seat
    (search rules)
    c.in_ok-hand_over.ensures.owners
    (with_items_is (with_item c.args.self.now.seats c.args.t c.begin.new.seat) c.clear.new.seats (search rules))
    c.in_ok-child.ensures.seats
    c.in_ok-child.ensures.child
    (search rules)
    (lt-ltb c.args.self.now.issued c.args.self.now.limit (omega arith))
    e)

-- the thread's subthread has begun
begun : (c : After-begin) → Walks (map onward_of (set c.args.self.now.seats.items c.args.t c.begin.new.seat)) c.args.self.now.passed.first
    c.args.self.now.passed.last c.args.self.now.waits (map seat_of (set c.args.self.now.seats.items c.args.t c.begin.new.seat))
begun c =
    let self = c.args.self.now in
    begun_as seat_of onward_of self.seats.items c.args.t c.index_mut.result.now c.begin.new.seat self.issued self.passed.first self.passed.last
    self.waits (get-at self.seats.items c.args.t c.index_mut.result.now c.requires.exists c.index_mut.ensures.value) c.requires.live
    c.begin.ensures.onward c.begin.ensures.seat c.requires.walks.walks

-- no way goes over it
around : (c : After-begin) → SleepOver c.wake.new.ways.items (map seat_of (set c.args.self.now.seats.items c.args.t c.begin.new.seat))
around c =
    let self = c.args.self.now in
    put-uncrossed seat_of c.wake.new.ways.items self.seats.items c.args.t c.index_mut.result.now c.begin.new.seat
    (get-at self.seats.items c.args.t c.index_mut.result.now c.requires.exists c.index_mut.ensures.value) c.wake.ensures.uncrossed
    (subst (λ xs. SleepOver c.wake.new.ways.items (map seat_of xs)) c.deref.ensures.value c.wake.ensures.sleep)

pub returns-in_default-clause-walks : goal.returns-in_default-clause-walks
returns-in_default-clause-walks c = record {
  walks = begun (goal.at.returns-in_default-clause-walks c).After-begin;
  start = search rules;
  sleep = around (goal.at.returns-in_default-clause-walks c).After-begin;
}

pub clear-requires-clause-idle : goal.clear-requires-clause-idle
clear-requires-clause-idle c =
    subst (λ xs. IdleOver (map onward_of xs) (map seat_of xs)) (sym c.deref_mut.ensures.value)
    (begun (goal.at.clear-requires-clause-idle c).After-begin).idle

pub clear-requires-clause-passed : goal.clear-requires-clause-passed
clear-requires-clause-passed c =
    subst (λ xs. PassedWithin c.args.self.now.passed.first c.args.self.now.passed.last (map seat_of xs)) (sym c.deref_mut.ensures.value)
    (begun (goal.at.clear-requires-clause-passed c).After-begin).passed

pub returns-clause-walks : goal.returns-clause-walks
returns-clause-walks c =
    let self = c.args.self.now in
    let old = set self.seats.items c.args.t c.begin.new.seat in
    let same = with_items_is (with_item self.seats c.args.t c.begin.new.seat) c.clear.new.seats (search rules) in
    let seats : map seat_of c.clear.new.seats ≡ map unpassed (map seat_of old) = search rules in
    let ways : map onward_of c.clear.new.seats ≡ map onward_of old = search rules in
    record {
      walks =
          issued_as seat_of onward_of c.in-Some.next.sync _ _ _ _ self.waits c.in_ok-child.ensures.seats c.in_ok-child.ensures.onward
          (cleared_as seat_of onward_of old _ self.passed.first self.passed.last self.waits _ _ (ap (map seat_of) same ∙ seats)
          (ap (map onward_of) same ∙ ways) (begun (goal.at.returns-clause-walks c).After-begin));
      start =
          grown_within seat_of c.in-Some.next.sync (c.args.t + 1) _ _ c.in_ok-child.ensures.seats (search rules);
      sleep =
          issued-sleep seat_of c.wake.new.ways.items c.in-Some.next.sync _ _ c.in_ok-child.ensures.seats
          (cleared-sleep seat_of c.wake.new.ways.items old _ (ap (map seat_of) same ∙ seats)
          (around (goal.at.returns-clause-walks c).After-begin));
    }
