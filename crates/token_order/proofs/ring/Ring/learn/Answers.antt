use Rattle.std.proofs.Common.{sym, ap, ◌∙◌, length, refl, subst, ◌<◌}
use Rattle.task_ast.specs.Table.{Table, learning}
use Rattle.task_ast.proofs.IssuedTables.{learnt_length}
use Rattle.token_order.specs.Spans.{WaysStand, covers}
use Rattle.token_order.specs.View.{Roomy, table, seat_of}
use Rattle.token_order.proofs.Inside.{learn-stands}
use Rattle.token_order.proofs.Rings.{same_room}
use Rattle.std.proofs.lemmas.List.{length-map}
use Rattle.token_order.proofs.Shown.{length_shown, learn-shown}
use Rattle.token_order.proofs.ring.Ring.learn.Goals as goal

pub invariant_of-self : goal.invariant_of-self
invariant_of-self c = record {
  inside = learn-stands c.self.inside.threads c.learn.new.self c.thread.inside.0 c.args.next c.self.invariant.inside c.learn.ensures.walks c.learn.ensures.learnt;
  ways =
      subst (λ (there : Table). WaysStand c.uncover.new.self.ways.items there.seats) (sym c.learn.ensures.learnt)
      (c.uncover.ensures.uncovered c.args.next);
  locks = c.self.invariant.locks;
  owners = c.self.invariant.owners ∙ sym (ap (λ table. table.owners) c.learn.ensures.learnt);
}

pub uncover-requires-clause-exists : goal.uncover-requires-clause-exists
uncover-requires-clause-exists c =
    subst (λ n. c.thread.inside.0 < n)
    (sym (ap (λ (roomy : Roomy). length roomy.table.seats) c.self.view_is)
    ∙ length_shown (covers c.self.inside.spans.span) (table c.self.inside.threads).seats
    ∙ length-map c.self.inside.threads.seats.items seat_of)
    (subst (λ t. t < length c.args.self.now.table.seats) (sym c.thread.view_is) c.requires)

pub learn-requires-clause-exists : goal.learn-requires-clause-exists
learn-requires-clause-exists c =
    subst (λ n. c.thread.inside.0 < n)
    (sym (ap (λ (roomy : Roomy). length roomy.table.seats) c.self.view_is)
    ∙ length_shown (covers c.self.inside.spans.span) (table c.self.inside.threads).seats
    ∙ length-map c.self.inside.threads.seats.items seat_of)
    (subst (λ t. t < length c.args.self.now.table.seats) (sym c.thread.view_is) c.requires)

pub returns-clause-table : goal.returns-clause-table
returns-clause-table c =
    learn-shown c.self.inside.spans.span c.uncover.new.self.span (table c.self.inside.threads) (table c.learn.new.self) c.thread.inside.0 c.args.next
    c.uncover.ensures.span c.learn.ensures.learnt
    ∙ ap (λ (roomy : Roomy). learning roomy.table c.thread.inside.0 c.args.next) c.self.view_is
    ∙ ap (λ t. learning c.args.self.now.table t c.args.next) c.thread.view_is

pub returns-clause-spare : goal.returns-clause-spare
returns-clause-spare c =
    same_room c.self.inside.threads c.learn.new.self c.self.inside.held c.self.inside.held
    (ap (λ there. length there.seats) c.learn.ensures.learnt ∙ learnt_length (table c.self.inside.threads) c.thread.inside.0 c.args.next)
    c.learn.ensures.capacity refl
    ∙ ap (λ (roomy : Roomy). roomy.spare) c.self.view_is
