use Rattle.std.proofs.Common.{◌<◌, ◌++◌, ◌-◌, refl, subst, map, arith}
use Rattle.std.specs.Option.{option_to_list}
use Rattle.std.specs.List.Sorted.{IsStrictlyIncreasing}
use Rattle.whole_run.specs.declared.parts.backing.Checkpoint.{Checkpoint}
use Rattle.whole_run.proofs.CheckpointLists.{not-above, last-dropped}
use Rattle.whole_run.proofs.parts.backing.drop_after.Goals as goal

pub returns-then-last-cut : goal.returns-then-last-cut
returns-then-last-cut c =
    let before = c.dropping.invariant in
    let items = c.dropping.backup.checkpoints in
    let some = c.in-Some.ensures.variant.0 refl in
    let count = items.ok in
    record {
      whole = before.whole;
      rest = before.rest;
      split = before.split;
      dropped = before.dropped;
      kept = not-above items.items before.rest (items.len - 1) c.in-Some.last.now c.args.cut
          (subst (λ xs. IsStrictlyIncreasing (map (λ (x : Checkpoint). x.cut) xs)) before.split c.requires) (omega arith)
          c.in-Some.ensures.lookup c.if-last-cut.true;
    }

pub dropping-preserved-else-last-cut : goal.dropping-preserved-else-last-cut
dropping-preserved-else-last-cut c =
    let before = c.dropping.invariant in
    let items = c.dropping.backup.checkpoints in
    let some = c.in-Some.ensures.variant.0 refl in
    let count = items.ok in
    let both =
    last-dropped c.args.backup.now.checkpoints.items items.items c.pop_back.new.self.items c.pop_back.result (items.len - 1) (omega arith)
    c.in-Some.last.now c.in-Some.ensures.lookup c.pop_back.ensures.lookup
    (λ (x : Checkpoint). c.args.cut < x.cut) c.if-last-cut.false before.rest before.split c.pop_back.ensures.items before.dropped in
    record { whole = before.whole; rest = option_to_list c.pop_back.result ++ before.rest; split = both.0; dropped = both.1 }
