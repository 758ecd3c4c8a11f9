use Rattle.std.proofs.Common.{◌<◌, ◌++◌, refl, arith}
use Rattle.std.specs.Option.{option_to_list}
use Rattle.whole_run.specs.declared.parts.backing.Checkpoint.{Checkpoint}
use Rattle.whole_run.proofs.CheckpointLists.{first-dropped, live-from}
use Rattle.whole_run.proofs.parts.backing.drop_before.Goals as goal

pub returns-then-position-first : goal.returns-then-position-first
returns-then-position-first c =
    let before = c.dropping.invariant in
    let items = c.dropping.backup.checkpoints in
    let some = c.in-Some.ensures.variant.0 refl in
    let count = items.ok in
    record {
      whole = before.whole;
      front = before.front;
      split = before.split;
      dropped = before.dropped;
      stops = live-from items.items c.in-Some.first.now c.args.position (omega arith) c.in-Some.ensures.lookup c.if-position-first.true;
    }

pub dropping-preserved-else-position-first : goal.dropping-preserved-else-position-first
dropping-preserved-else-position-first c =
    let before = c.dropping.invariant in
    let items = c.dropping.backup.checkpoints in
    let some = c.in-Some.ensures.variant.0 refl in
    let count = items.ok in
    let both =
    first-dropped c.args.backup.now.checkpoints.items items.items c.pop_front.new.self.items c.pop_front.result 0 (omega arith)
    c.in-Some.first.now c.in-Some.ensures.lookup c.pop_front.ensures.lookup
    (λ (x : Checkpoint). x.cut < c.args.position) c.if-position-first.false before.front before.split c.pop_front.ensures.items
    before.dropped in
    record { whole = before.whole; front = before.front ++ option_to_list c.pop_front.result; split = both.0; dropped = both.1 }
