use Rattle.std.proofs.Common.{sym, ap, ◌∙◌, subst}
use Rattle.token_order.specs.View.{Roomy, table}
use Rattle.token_order.specs.Turned.{LeavesRoom}
use Rattle.token_order.specs.Spans.{shown}
use Rattle.token_order.specs.Standing.{spare_of}
use Rattle.token_order.specs.Owning.{noted}
use Rattle.token_order.proofs.Rings.{owners_noted, room_left}
use Rattle.token_order.proofs.ring.Ring.turn.Goals as goal

pub invariant_of-self : goal.invariant_of-self
invariant_of-self c = record {
  inside = c.turn_in-turn.ensures.inside;
  ways = c.turn_in-turn.ensures.ways;
  locks = c.note.ensures.stands;
  owners =
      c.note.ensures.owners ∙ ap (noted c.turn_in-turn.result) c.self.invariant.owners
      ∙ sym (owners_noted (shown c.self.inside.spans.span (table c.self.inside.threads))
      (shown c.turn_in-turn.new.spans.span (table c.turn_in-turn.new.self)) c.turn_in-turn.result c.turn_in-turn.ensures.answer);
}

pub returns-clause-spare : goal.returns-clause-spare
returns-clause-spare c =
    subst (λ n. LeavesRoom c.turn_in-turn.result n (spare_of c.turn_in-turn.new.self c.note.new.self))
    (ap (λ (roomy : Roomy). roomy.spare) c.self.view_is)
    (room_left c.self.inside.threads c.turn_in-turn.new.self c.self.inside.spans.span c.turn_in-turn.new.spans.span c.self.inside.held c.note.new.self
    c.turn_in-turn.result c.turn_in-turn.ensures.answer c.turn_in-turn.ensures.capacity c.note.ensures.kept)
