use Rattle.std.proofs.Common.{◌≡◌, ◌∙◌, sym, ap, length, rules}
use Rattle.std.proofs.lemmas.List.{length-map}
use Rattle.token_order.specs.Spans.{covers}
use Rattle.token_order.specs.View.{Roomy, table, seat_of}
use Rattle.token_order.proofs.Shown.{length_shown}
use Rattle.token_order.proofs.ring.Ring.len.Goals as goal

pub returns : goal.returns
returns c =
    let all : c.len.result ≡ length c.self.inside.threads.seats.items = search rules in
    all ∙ sym (length-map c.self.inside.threads.seats.items seat_of)
    ∙ sym (length_shown (covers c.self.inside.spans.span) (table c.self.inside.threads).seats)
    ∙ ap (λ (roomy : Roomy). length roomy.table.seats) c.self.view_is
