use Rattle.std.proofs.Common.{arith}
use Rattle.token_order.proofs.Ways.{forgot_more, forgot}
use Rattle.token_order.proofs.spans.forget.Goals as goal

pub loop-way-preserved : goal.loop-way-preserved
loop-way-preserved c = forgot_more c.loop-way.ways c.loop-way.way-index c.loop-way.invariant

pub returns : goal.returns
returns c seats = forgot c.loop-way.ways seats c.loop-way.way-index (omega arith) c.loop-way.invariant
