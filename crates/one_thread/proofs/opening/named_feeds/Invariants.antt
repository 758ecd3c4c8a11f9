use Rattle.std.proofs.Common.{◌≡◌, ◌≤◌, ◌++◌, drop, zip}
use Rattle.task_ast.specs.meaning.Names.{feeds_of}
use Rattle.one_thread.proofs.opening.named_feeds.Given as goal

abbrev pub invariant-loop-head : goal.invariant-loop-head
invariant-loop-head l = record {
  same : l.named ++ zip (feeds_of (drop l.head-index l.heads)) (drop l.count l.feeds) ≡ zip (feeds_of l.heads) l.feeds;
  few : l.count ≤ l.head-index;
}
