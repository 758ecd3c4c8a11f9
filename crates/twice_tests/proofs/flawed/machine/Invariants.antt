use Rattle.std.proofs.Common.{◌≡◌}
use Rattle.std.specs.Prelude.{All}
use Rattle.subthread.specs.declared.flaw.Flaw.{Flaw}
use Rattle.twice_tests.proofs.flawed.machine.Given as goal

-- each makes its walk end at an instruction of the walk's number
abbrev pub invariant-adding : goal.invariant-adding
invariant-adding l = All (λ (f : Flaw). f.made.pc ≡ f.walk) l.flaws
