use Rattle.std.proofs.Common.{◌≡◌, ℕ, ◌+◌, ◌++◌, ◌≤◌, length, take}
use Rattle.gp_base.specs.declared.limits.TheConstants.{MOST_FAULTS}
use Rattle.gp_audit.specs.inner.Audited.{seen_at, all_raised, waits_again}
use Rattle.gp_audit.proofs.state.Audit.restart.Given as goal

abbrev pub invariant-loop-position : goal.invariant-loop-position
invariant-loop-position l = record {
  raised : l.self.seen.items ≡ all_raised (length l.fn.self.seen.items) (take l.position-index l.restart.redo) l.fn.self.seen.items;
  wide : length l.self.seen.items ≡ length l.fn.self.seen.items;
  few : (p : ℕ) → (seen_at l.self.seen.items p).attempt ≤ MOST_FAULTS + l.position-index;
  steps : l.self.steps.now ≡ l.fn.self.steps.now;
  faults : l.self.faults.now ≡ l.fn.self.faults.now;
  out : l.self.out.items ≡ l.fn.self.out.items;
  waiting : l.self.waiting.items ≡ l.fn.self.waiting.items ++ waits_again (length l.fn.self.seen.items)
      (take l.position-index l.restart.redo) l.fn.self.seen.items;
  retired : l.self.retired ≡ l.fn.self.retired;
}
