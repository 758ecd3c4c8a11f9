use Rattle.soak_batch.proofs.OneMore.{fault_more}
use Rattle.soak_batch.proofs.rows.fault_rows.Goals as goal

pub loop-part-preserved : goal.loop-part-preserved
loop-part-preserved c =
    fault_more c.args.width 40 c.loop-part.part c.loop-part.draws.state c.push_fault.new.draws.state c.loop-part.text.items
    c.push_fault.new.text.items _ c.loop-part-test.true c.loop-part.invariant
    c.in_ok-push_fault.ensures.text c.in_ok-push_fault.ensures.state
