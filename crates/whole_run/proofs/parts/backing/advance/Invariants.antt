use Rattle.std.proofs.Common.{◌≡◌, ◌<◌, ◌≤◌, ◌-◌, ℕ, Some, true}
use Rattle.reorder_list.specs.declared.entry.Entry.{Entry}
use Rattle.reorder_list.specs.Entries.{entry_at, is_applied}
use Rattle.whole_run.proofs.parts.backing.advance.Given as goal

abbrev pub invariant-advancing : goal.invariant-advancing
invariant-advancing l = record {
  low : l.fn.backup.whole ≤ l.backup.whole;
  passed : (q : ℕ) → l.fn.backup.whole ≤ q → q < l.backup.whole
      → (e : Entry) × (entry_at l.rol.entries q ≡ Some e) × (is_applied e.state ≡ true);
  same : l.backup.checkpoints ≡ l.fn.backup.checkpoints;
}

abbrev pub decreases-advancing : goal.decreases-advancing
decreases-advancing l = 4294967295 - l.backup.whole
