use Rattle.std.proofs.Common.{arith, ◌∙◌}
use Rattle.whole_run.specs.inner.Kept.{batch_in}
use Rattle.whole_run.proofs.Opened.{few_locks, ring_begins}
use Rattle.whole_run.proofs.parts.beginning.ring_of.Goals as goal

pub overflow_cast-locks : goal.overflow_cast-locks
overflow_cast-locks c = let few = few_locks (batch_in c.args.plan.now) c.args.layout.now c.requires in omega arith

pub returns-clause-table : goal.returns-clause-table
returns-clause-table c =
    ring_begins (batch_in c.args.plan.now) c.args.layout.now c.requires c.in_ok-ring.ring.table c.len-locks.result c.in_ok-barriers.barriers
    c.len-locks.ensures
    (c.in_ok-barriers.ensures ∙ c.barriers.ensures) c.in_ok-ring.ensures.table
