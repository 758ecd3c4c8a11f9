use Rattle.std.proofs.Common.{◌∙◌, sym, ap, refl, length}
use Rattle.task_ast.specs.Table.{Table}
use Rattle.token_order.specs.View.{Roomy}
use Rattle.token_order.proofs.Rings.{passes_room, passes_owners, same_room}
use Rattle.token_order.proofs.ring.Ring.pass_waiting.Goals as goal

pub invariant_of-self : goal.invariant_of-self
invariant_of-self c = record {
  inside = c.pass_waiting.ensures.inside;
  ways = c.pass_waiting.ensures.ways;
  locks = c.self.invariant.locks;
  owners =
      c.self.invariant.owners
      ∙ sym (ap (λ (there : Table). there.owners) (c.shorten-2.ensures.table ∙ c.shorten.ensures.table))
      ∙ sym (passes_owners _ _ c.pass_waiting.ensures.passes);
}

pub returns-clause-spare : goal.returns-clause-spare
returns-clause-spare c =
    passes_room c.shorten-2.new.self c.pass_waiting.new.self c.self.inside.spans.span c.pass_waiting.new.spans.span c.self.inside.held
    c.pass_waiting.ensures.passes c.pass_waiting.ensures.capacity
    ∙ same_room c.self.inside.threads c.shorten-2.new.self c.self.inside.held c.self.inside.held
    (ap (λ (there : Table). length there.seats) (c.shorten-2.ensures.table ∙ c.shorten.ensures.table))
    (c.shorten-2.ensures.capacity ∙ c.shorten.ensures.capacity) refl
    ∙ ap (λ (roomy : Roomy). roomy.spare) c.self.view_is
