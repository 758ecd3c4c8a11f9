use Rattle.std.proofs.Common.{◌≡◌, ◌<◌, ◌≤◌, ◌+◌, ◌∙◌, sym, subst, map, unwrap_or, arith, rules}
use Rattle.ended_seats.specs.Idle.{IdleOver}
use Rattle.std.specs.Prelude.{slice_get}
use Rattle.std.proofs.lemmas.Bool.{lt-ltb}
use Rattle.token_order.specs.View.{seat_of, onward_of}
use Rattle.ended_seats.proofs.Walks.{waits_most}
use Rattle.token_order.proofs.threads.Threads.waits_for_more.Goals as goal

pub returns-then-saturating_add-stated : goal.returns-then-saturating_add-stated
returns-then-saturating_add-stated c =
    let few = waits_most c.args.barrier (map seat_of c.args.self.now.seats.items) c.args.self.now.waits c.requires.walks.few in
    let less : c.saturating_add.result < c.stated-stated.result = search rules in
    let room : c.args.self.now.waits + 1 ≤ c.saturating_add.result = search rules in
    let is : c.stated-stated.result ≡ unwrap_or (slice_get c.args.self.now.barriers.items c.args.barrier) 0 = search rules in
    lt-ltb _ _ less ∙ sym (lt-ltb _ _ (omega (arith, less, few, room, is)))

pub waiting-requires : goal.waiting-requires
waiting-requires c = record {
  idle = subst (λ xs. IdleOver (map onward_of xs) (map seat_of xs)) (sym c.deref-else-saturating_add-stated.ensures.value) c.requires.walks.idle;
}
