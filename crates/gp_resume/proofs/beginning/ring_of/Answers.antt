use Rattle.std.proofs.Common.{arith, ◌∙◌}
use Rattle.gp_resume.proofs.Openings.{few-locks, ring-begins}
use Rattle.gp_resume.proofs.beginning.ring_of.Goals as goal

pub overflow_cast-locks : goal.overflow_cast-locks
overflow_cast-locks c = let few = few-locks c.args.plan.now c.requires.suits c.args.cells.now c.requires.layout in omega arith

pub returns : goal.returns
returns c =
    ring-begins c.args.plan.now c.requires.suits c.args.cells.now c.requires.layout c.in_ok-ring.ring.table c.len-locks.result
    c.in_ok-barriers.barriers c.len-locks.ensures (c.in_ok-barriers.ensures ∙ c.barriers.ensures) c.in_ok-ring.ensures.table
