use Rattle.std.proofs.Common.{◌≡◌, ◌∙◌, ap, refl, sym, subst, map, set, arith, rules}
use Rattle.std.specs.Vec.{with_item}
use Rattle.std.proofs.lemmas.Bool.{lt-ltb}
use Rattle.std.proofs.lemmas.List.{with_items_is}
use Rattle.task_ast.proofs.Looks.{get-at}
use Rattle.task_ast.proofs.SeenSeats.{issued-as}
use Rattle.ended_seats.specs.Idle.{IdleOver, PassedWithin, Walks}
use Rattle.token_order.specs.View.{table, seat_of, onward_of}
use Rattle.ended_seats.proofs.Walks.{begun_as, cleared_as, issued_as}
use Rattle.task_ast.specs.Table.{unpassed}
use Rattle.token_order.proofs.threads.Threads.issue.Goals as goal
use Rattle.token_order.proofs.threads.Threads.issue.Goals.{After-begin}

pub returns-clause-answer : goal.returns-clause-answer
returns-clause-answer c next e =
    issued-as seat_of (table c.args.self.now) c.args.self.now.seats.items c.args.t c.index_mut.result.now c.begin.new.seat next
    c.in-Some.next c.unpass_all.new.seats _ _ _ _ refl
    (get-at c.args.self.now.seats.items c.args.t c.index_mut.result.now c.requires.exists c.index_mut.ensures.value)
    (sym c.begin.ensures.next ∙ c.in-Some.is)
    c.begin.ensures.seat
    (search rules)
    c.hand_over.ensures
    (with_items_is (with_item c.args.self.now.seats c.args.t c.begin.new.seat) c.unpass_all.new.seats (search rules))
    c.add_child-child.ensures.seats
    c.add_child-child.ensures.child
    (search rules)
    (lt-ltb c.args.self.now.issued c.args.self.now.limit (omega arith))
    e

-- the thread's subthread has begun
begun : (c : After-begin) → Walks (map onward_of (set c.args.self.now.seats.items c.args.t c.begin.new.seat)) c.args.self.now.passed.first
    c.args.self.now.passed.last c.args.self.now.waits (map seat_of (set c.args.self.now.seats.items c.args.t c.begin.new.seat))
begun c =
    let self = c.args.self.now in
    begun_as seat_of onward_of self.seats.items c.args.t c.index_mut.result.now c.begin.new.seat self.issued self.passed.first self.passed.last
    self.waits (get-at self.seats.items c.args.t c.index_mut.result.now c.requires.exists c.index_mut.ensures.value) c.requires.live
    c.begin.ensures.onward c.begin.ensures.seat c.requires.walks

pub returns-in_default-clause-walks : goal.returns-in_default-clause-walks
returns-in_default-clause-walks c = begun (goal.at.returns-in_default-clause-walks c).After-begin

pub unpass_all-requires-clause-idle : goal.unpass_all-requires-clause-idle
unpass_all-requires-clause-idle c =
    subst (λ xs. IdleOver (map onward_of xs) (map seat_of xs)) (sym c.deref_mut.ensures.value)
    (begun (goal.at.unpass_all-requires-clause-idle c).After-begin).idle

pub unpass_all-requires-clause-passed : goal.unpass_all-requires-clause-passed
unpass_all-requires-clause-passed c =
    subst (λ xs. PassedWithin c.args.self.now.passed.first c.args.self.now.passed.last (map seat_of xs)) (sym c.deref_mut.ensures.value)
    (begun (goal.at.unpass_all-requires-clause-passed c).After-begin).passed

pub returns-clause-walks : goal.returns-clause-walks
returns-clause-walks c =
    let self = c.args.self.now in
    let old = set self.seats.items c.args.t c.begin.new.seat in
    let same = with_items_is (with_item self.seats c.args.t c.begin.new.seat) c.unpass_all.new.seats (search rules) in
    let seats : map seat_of c.unpass_all.new.seats ≡ map unpassed (map seat_of old) = search rules in
    let ways : map onward_of c.unpass_all.new.seats ≡ map onward_of old = search rules in
    issued_as seat_of onward_of c.in-Some.next.sync _ _ _ _ self.waits c.add_child-child.ensures.seats c.add_child-child.ensures.onward
    (cleared_as seat_of onward_of old _ self.passed.first self.passed.last self.waits _ _ (ap (map seat_of) same ∙ seats)
    (ap (map onward_of) same ∙ ways) (begun (goal.at.returns-clause-walks c).After-begin))
