use Rattle.std.proofs.Common.{◌≡◌, ◌+◌, ◌≤◌, ◌<◌, ℕ, Some}
use Rattle.reorder_list.specs.declared.entry.Entry.{Entry}
use Rattle.reorder_list.specs.Entries.{first_position, entry_at}
use Rattle.reorder_list.specs.Runnable.{LetsPass}
use Rattle.reorder_list.proofs.search.blocker.Given as goal

abbrev pub invariant-loop-earlier : goal.invariant-loop-earlier
invariant-loop-earlier l =
    (q : ℕ) (x : Entry) → first_position l.entries.items + l.earlier ≤ q → q < first_position l.entries.items + l.place
    → entry_at l.entries.items q ≡ Some x → LetsPass x l.entry
