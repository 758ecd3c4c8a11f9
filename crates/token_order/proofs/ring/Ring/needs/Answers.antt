use Rattle.std.proofs.Common.{◌∙◌, sym, ap}
use Rattle.token_order.specs.View.{Roomy, table}
use Rattle.token_order.specs.Turned.{needed_at}
use Rattle.token_order.proofs.Shown.{needed_shown}
use Rattle.token_order.proofs.ring.Ring.needs.Goals as goal

pub returns-in_err-t : goal.returns-in_err-t
returns-in_err-t c =
    let same = c.needs.ensures ∙ sym (needed_shown c.self.inside.spans.span (table c.self.inside.threads))
    ∙ ap (λ (roomy : Roomy). needed_at roomy.table) c.self.view_is in
    c.from_residual.ensures ∙ sym c.in_err-t.was ∙ same

pub returns : goal.returns
returns c =
    let same = c.needs.ensures ∙ sym (needed_shown c.self.inside.spans.span (table c.self.inside.threads))
    ∙ ap (λ (roomy : Roomy). needed_at roomy.table) c.self.view_is in
    sym c.in_ok-t.was ∙ same
