use Rattle.std.proofs.Common.{◌≡◌}
use Rattle.subthread.proofs.erring.write_all.Given as goal

abbrev pub invariant-writing : goal.invariant-writing
invariant-writing l = (l.cells.under ≡ l.fn.cells.under) × (l.cells.came ≡ l.fn.cells.came)
