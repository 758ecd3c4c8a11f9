use Rattle.std.proofs.Common.{◌∙◌, sym, ap}
use Rattle.token_order.specs.Turned.{is_let}
use Rattle.token_order.specs.View.{Roomy, table}
use Rattle.token_order.proofs.Shown.{let_shown}
use Rattle.token_order.proofs.ring.Ring.lets.Goals as goal

pub returns : goal.returns
returns c =
    c.lets.ensures ∙ sym (let_shown c.self.inside.spans.span (table c.self.inside.threads) c.args.sync.now)
    ∙ ap (λ (roomy : Roomy). is_let roomy.table c.args.sync.now) c.self.view_is
