use Rattle.std.proofs.Common.{◌≡◌, ◌++◌, drop, map}
use Rattle.run_views.specs.meaning.Order.{order_lines}
use Rattle.run_views.specs.Seen.{seen}
use Rattle.run_views.proofs.order.push_order.Given as goal

-- the lines so far, and those of the subthreads that are left, are all
abbrev pub invariant-loop-at : goal.invariant-loop-at
invariant-loop-at l =
    l.text.items ++ order_lines l.heads l.at (map seen (drop l.at l.order)) ≡ l.fn.text.items ++ order_lines l.heads 0 (map seen l.order)
