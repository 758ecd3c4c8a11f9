use Rattle.std.proofs.Common.{◌∙◌, sym, ap, unwrap_or, option_map, false}
use Rattle.token_order.specs.Spans.{is_stopped}
use Rattle.token_order.specs.View.{table}
use Rattle.token_order.proofs.Turning.{seen}
use Rattle.token_order.proofs.Ways.{ways_learnt}
use Rattle.token_order.proofs.spans.Spans.uncover.Goals as goal

pub returns-else-is_stopped-clause-uncovered : goal.returns-else-is_stopped-clause-uncovered
returns-else-is_stopped-clause-uncovered c next =
    ways_learnt c.args.self.now.ways.items (table c.args.threads.now) c.args.t next
    (ap (λ o. unwrap_or (option_map is_stopped o) false) (seen c.args.threads.now c.args.t c.index.result.now c.requires.exists c.index.ensures)
    ∙ sym c.is_stopped.ensures ∙ c.if-is_stopped.false) c.requires.ways
