use Rattle.std.proofs.Common.{◌≡◌, ℕ, suc, ◌-◌, length}
use Rattle.task_ast.specs.LockLists.{held_at}
use Rattle.token_order.proofs.held.Held.put.Given as goal

-- empty lists change nothing
abbrev pub invariant-loop-self : goal.invariant-loop-self
invariant-loop-self l =
    ((u : ℕ) → held_at l.self.locks.items u ≡ held_at l.initial.self.locks.items u) × (l.self.owners ≡ l.initial.self.owners)
    × (l.self.change ≡ l.initial.self.change)

abbrev pub decreases-loop-self : goal.decreases-loop-self
decreases-loop-self l = suc l.t - length l.self.locks.items
