use Rattle.record_store.proofs.Homing.{distinct-rising}
use Rattle.subthread.proofs.lending.lend.Goals as goal

pub lend-requires-clause-distinct : goal.lend-requires-clause-distinct
lend-requires-clause-distinct c = distinct-rising c.args.task.held c.requires.rising
