use Rattle.std.proofs.Common.{◌≡◌, ◌++◌, drop}
use Rattle.task_ast.specs.meaning.Names.{feeds_of}
use Rattle.task_code.specs.inner.Tables.{targets}
use Rattle.task_code.proofs.tables.feed_names.Given as goal

abbrev pub invariant-loop-head : goal.invariant-loop-head
invariant-loop-head l = targets l.names.items ++ feeds_of (drop l.head-index l.heads) ≡ feeds_of l.heads
