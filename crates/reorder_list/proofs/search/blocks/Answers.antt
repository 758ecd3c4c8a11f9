use Rattle.std.proofs.Common.{rules}
use Rattle.reorder_list.proofs.search.blocks.Goals as goal

pub returns-then-not-is_applied-clause-blocks : goal.returns-then-not-is_applied-clause-blocks
returns-then-not-is_applied-clause-blocks c = search rules

pub returns-then-not-is_applied-clause-passes : goal.returns-then-not-is_applied-clause-passes
returns-then-not-is_applied-clause-passes c = search rules
