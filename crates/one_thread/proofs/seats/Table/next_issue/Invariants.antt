use Rattle.std.proofs.Common.{◌≡◌}
use Rattle.task_ast.specs.Turn.{next_issue, turns_left}
use Rattle.one_thread.specs.Holding.{AreHeld}
use Rattle.one_thread.specs.View.{table_of, WalksStand}
use Rattle.one_thread.proofs.seats.Table.next_issue.Given as goal

abbrev pub invariant-loop-self : goal.invariant-loop-self
invariant-loop-self l = record {
  same : next_issue (table_of l.fn.self) ≡ next_issue (table_of l.self);
  held : AreHeld l.self.owners.owners.items l.self.owners.held.items;
  walks : WalksStand l.self;
}

abbrev pub decreases-loop-self : goal.decreases-loop-self
decreases-loop-self l = turns_left (table_of l.self)
