use Rattle.token_order.proofs.Ways.{ForgotBelow}
use Rattle.token_order.proofs.spans.forget.Given as goal

abbrev pub invariant-loop-way : goal.invariant-loop-way
invariant-loop-way l = ForgotBelow l.way-index l.ways
