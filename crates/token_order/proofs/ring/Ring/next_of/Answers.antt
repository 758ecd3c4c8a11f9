use Rattle.std.proofs.Common.{◌∙◌, sym, ap}
use Rattle.task_ast.specs.Table.{next_of}
use Rattle.token_order.specs.View.{Roomy, table}
use Rattle.token_order.proofs.Shown.{next_shown}
use Rattle.token_order.proofs.ring.Ring.next_of.Goals as goal

pub returns : goal.returns
returns c =
    c.next_of.ensures ∙ sym (next_shown c.self.inside.spans.span (table c.self.inside.threads) c.thread.inside.0)
    ∙ ap (λ (roomy : Roomy). next_of roomy.table c.thread.inside.0) c.self.view_is
    ∙ ap (next_of c.args.self.now.table) c.thread.view_is
