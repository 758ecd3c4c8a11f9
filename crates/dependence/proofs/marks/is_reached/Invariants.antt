use Rattle.std.proofs.Common.{◌≡◌, ◌<◌, ℕ, get_or, true, false}
use Rattle.dependence.specs.Conflict.{ClashIn}
use Rattle.dependence.proofs.marks.is_reached.Given as goal

abbrev pub invariant-loop-earlier : goal.invariant-loop-earlier
invariant-loop-earlier l = (p : ℕ) → p < l.earlier → get_or l.marks p false ≡ true → ClashIn l.feet p l.position → ⊥
