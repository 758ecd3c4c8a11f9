use Rattle.std.proofs.Common.{◌≡◌, ◌-◌, map, take, length, ◌≤◌, count_by}
use Rattle.task_ast.specs.Table.{waits_at}
use Rattle.one_thread.specs.View.{seat_of}
use Rattle.one_thread.proofs.turns.waiting.Given as goal

abbrev pub invariant-loop-t : goal.invariant-loop-t
invariant-loop-t l = (l.number ≡ count_by (waits_at l.barrier) (take l.t (map seat_of l.seats))) × (l.number ≤ l.t)

abbrev pub decreases-loop-t : goal.decreases-loop-t
decreases-loop-t l = length l.seats - l.t
