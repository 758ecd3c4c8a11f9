use Rattle.std.proofs.Common.{◌≡◌, ◌+◌, drop, None}
use Rattle.db_rows.specs.Order.{unordered_from}
use Rattle.db_rows.proofs.order.first_unordered.Given as goal

-- what is left decides
abbrev pub invariant-loop-at : goal.invariant-loop-at
invariant-loop-at l = unordered_from (l.at + 1) l.last (drop l.at l.rows) ≡ unordered_from 1 None l.rows
