use Rattle.std.proofs.Common.{◌∙◌, sym, ap}
use Rattle.token_order.specs.View.{Roomy, table, awaited}
use Rattle.token_order.proofs.Shown.{awaited_shown}
use Rattle.token_order.proofs.ring.Ring.awaits.Goals as goal

pub returns : goal.returns
returns c =
    c.awaits.ensures ∙ sym (awaited_shown c.self.inside.spans.span (table c.self.inside.threads) c.thread.inside.0)
    ∙ ap (λ (roomy : Roomy). awaited roomy.table c.thread.inside.0) c.self.view_is
    ∙ ap (awaited c.args.self.now.table) c.thread.view_is
