use Rattle.std.proofs.Common.{◌≡◌, ℕ, suc, ◌-◌, length}
use Rattle.task_ast.specs.LockLists.{held_at}
use Rattle.one_thread.proofs.owners.change.Given as goal

-- empty lists change nothing
abbrev pub invariant-loop-held : goal.invariant-loop-held
invariant-loop-held l = (u : ℕ) → held_at l.held.items u ≡ held_at l.fn.held.items u

abbrev pub decreases-loop-held : goal.decreases-loop-held
decreases-loop-held l = suc l.t - length l.held.items
