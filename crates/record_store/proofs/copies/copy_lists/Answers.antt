use Rattle.record_store.proofs.Pushed.{taken_more}
use Rattle.record_store.proofs.copies.copy_lists.Goals as goal

pub loop-list-preserved : goal.loop-list-preserved
loop-list-preserved c =
    taken_more c.args.lists.now c.loop-list.list-index c.list-item.result c.loop-list.copies.items c.push.new.self.items
    c.in_ok-copied.field-0 c.loop-list-test.true c.list-item.is c.loop-list.invariant c.in_ok-copied.ensures
    c.in_ok-push.ensures.items
