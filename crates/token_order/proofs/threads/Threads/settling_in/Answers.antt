use Rattle.std.proofs.Common.{◌∙◌, sym}
use Rattle.token_order.specs.View.{table}
use Rattle.token_order.proofs.Outcomes.{round_settles, turn_settles}
use Rattle.token_order.proofs.threads.Threads.settling_in.Goals as goal

pub returns-then-comes_round : goal.returns-then-comes_round
returns-then-comes_round c = sym (round_settles (table c.args.self.now) c.args.span (sym c.comes_round.ensures ∙ c.if-comes_round.true))

pub returns : goal.returns
returns c = c.settling.ensures ∙ sym (turn_settles (table c.args.self.now) c.args.span (sym c.comes_round.ensures ∙ c.if-comes_round.false))
