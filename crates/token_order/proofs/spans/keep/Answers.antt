use Rattle.std.proofs.Common.{rules}
use Rattle.token_order.proofs.Ways.{ways_set}
use Rattle.token_order.proofs.spans.keep.Goals as goal

pub returns-then-t-len : goal.returns-then-t-len
returns-then-t-len c seats stand new = ways_set c.args.ways.now.items seats c.args.t c.args.way (search rules) stand new
