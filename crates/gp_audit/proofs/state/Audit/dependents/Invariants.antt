use Rattle.std.proofs.Common.{◌≡◌, ◌≤◌, length}
use Rattle.dependence.specs.meaning.Conflict.{clash_in}
use Rattle.dependence.specs.meaning.Dependents.{dependents}
use Rattle.gp_audit.specs.Steps.{feet_in}
use Rattle.gp_audit.proofs.state.Audit.dependents.Given as goal

-- the dependents so far
abbrev pub invariant-loop-later : goal.invariant-loop-later
invariant-loop-later l = record {
  redo : l.redo ≡ dependents (clash_in (feet_in l.self.steps.now)) l.struck l.later;
  early : l.later ≤ length l.self.seen.items;
}
