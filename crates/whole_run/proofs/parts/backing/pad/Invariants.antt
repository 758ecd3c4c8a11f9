use Rattle.std.proofs.Common.{◌≤◌, length}
use Rattle.whole_run.specs.inner.Backing.{SlotsOnly}
use Rattle.whole_run.proofs.parts.backing.pad.Given as goal

abbrev pub invariant-loop : goal.invariant-loop
invariant-loop l = record { slots : SlotsOnly l.fn.store l.store; many : l.counter ≤ length l.store.threads }
