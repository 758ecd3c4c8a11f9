use Rattle.memory_batch.proofs.Heads.{one_head_more}
use Rattle.memory_batch.proofs.sourced.sourced.Goals as goal

pub loop-head-preserved : goal.loop-head-preserved
loop-head-preserved c =
    one_head_more c.args.heads.now c.loop-head.head-index c.head-item.result c.loop-head.found c.push_head.new.found _
    c.loop-head.rest.now c.in_ok-rest.rest.now c.loop-head-test.true c.head-item.is
    c.loop-head.invariant c.in_ok-rest.ensures.found c.in_ok-rest.ensures.rest
