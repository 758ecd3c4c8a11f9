use Rattle.restart_log.proofs.RecordLines.{records_more}
use Rattle.restart_log.proofs.records.push_records.Goals as goal

pub loop-head-preserved : goal.loop-head-preserved
loop-head-preserved c =
    records_more c.args.heads.now c.loop-head.head-index c.head-item.result c.loop-head.text.items c.push_head.new.text.items _
    c.loop-head.rest.now c.in_ok-rest.rest.now c.loop-head-test.true c.head-item.is
    c.loop-head.invariant c.in_ok-rest.ensures.text c.in_ok-rest.ensures.rest
