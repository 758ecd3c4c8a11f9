use Rattle.std.proofs.Common.{◌≡◌, pos, ◌+ℤ◌, take, w64}
use Rattle.std.specs.Prelude.{fold}
use Rattle.std.specs.Int.{int_wrap}
use Rattle.restart_log.proofs.soak.wrapped_sum.Given as goal

-- the sum of the cells so far
abbrev pub invariant-loop-cell : goal.invariant-loop-cell
invariant-loop-cell l = l.sum ≡ int_wrap w64 (fold (λ sum cell. sum +ℤ cell) (pos 0) (take l.cell-index l.cells))
