use Rattle.std.proofs.Common.{◌≡◌, ◌-◌, ◌≤◌}
use Rattle.one_thread.specs.inner.Resting.{RestBetween}
use Rattle.one_thread.specs.View.{table_of, WalksStand}
use Rattle.one_thread.proofs.seats.Table.first_awake.Given as goal

abbrev pub invariant-loop-t : goal.invariant-loop-t
invariant-loop-t l = record {
  rest : RestBetween l.from l.t (table_of l.fn.self);
  onward : l.from ≤ l.t;
  table : table_of l.self ≡ table_of l.fn.self;
  owners : l.self.owners ≡ l.fn.self.owners;
  walks : WalksStand l.self;
}

abbrev pub decreases-loop-t : goal.decreases-loop-t
decreases-loop-t l = l.to - l.t
