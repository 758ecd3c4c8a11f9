use Rattle.std.proofs.Common.{◌≡◌, ◌++◌, take}
use Rattle.run_views.specs.meaning.Order.{held_text}
use Rattle.run_views.proofs.order.push_held.Given as goal

-- the locks so far were appended
abbrev pub invariant-loop-lock : goal.invariant-loop-lock
invariant-loop-lock l = l.text.items ≡ l.fn.text.items ++ held_text l.heads (take l.lock-index l.held)
