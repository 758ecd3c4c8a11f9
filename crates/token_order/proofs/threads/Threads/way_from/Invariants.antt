use Rattle.std.proofs.Common.{◌-◌, length}
use Rattle.token_order.specs.Spans.{StoppedOver}
use Rattle.token_order.specs.View.{table}
use Rattle.token_order.proofs.threads.Threads.way_from.Given as goal

abbrev pub invariant-loop-t : goal.invariant-loop-t
invariant-loop-t l = StoppedOver l.from (record { to = l.t; past = l.past }) (table l.self).seats

abbrev pub decreases-loop-t : goal.decreases-loop-t
decreases-loop-t l = length l.self.seats.items - l.t
