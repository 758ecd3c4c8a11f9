use Rattle.std.proofs.Common.{◌+◌, ◌<◌, ◌≤◌, length, map, take, ap, sym, ◌∙◌, arith, rules, SFits, w64}
use Rattle.std.proofs.lemmas.Int.{to_z-of_z}
use Rattle.std.proofs.lemmas.List.{length-set, take_all, take_more_set}
use Rattle.record_store.specs.inner.Shelves.{seen, value_on, cells_on}
use Rattle.record_store.proofs.Pushed.{mapped_more}
use Rattle.record_store.proofs.stock.fill_cells.Goals as goal

pub loop-at-preserved : goal.loop-at-preserved
loop-at-preserved c =
    let fits : SFits w64 c.value_there.result = search rules in
    let less : c.loop-at.at < length c.loop-at.cells =
    (let count = c.loop-at.invariant.count in let room = c.requires.room in let test = c.loop-at-test.true in omega arith) in
    record {
      filled =
          mapped_more (value_on (map seen c.args.shelves.now)) c.args.places.now c.loop-at.at c.index-places-at.result
          (take c.loop-at.at c.loop-at.cells) (take (c.loop-at.at + 1) c.set.new.self) _ c.loop-at-test.true c.index-places-at.is
          c.loop-at.invariant.filled (to_z-of_z w64 c.value_there.result fits ∙ c.value_there.ensures)
          (ap (take (c.loop-at.at + 1)) c.set.ensures ∙ take_more_set c.loop-at.cells c.loop-at.at _ less);
      count = ap length c.set.ensures ∙ length-set c.loop-at.cells c.loop-at.at _ ∙ c.loop-at.invariant.count;
    }

pub returns : goal.returns
returns c =
    let done = c.loop-at-test.false in
    let all : length c.loop-at.cells ≤ c.loop-at.at =
    (let count = c.loop-at.invariant.count in let room = c.requires.room in omega arith) in
    sym (take_all c.loop-at.at c.loop-at.cells all) ∙ c.loop-at.invariant.filled
    ∙ ap (cells_on (map seen c.args.shelves.now)) (take_all c.loop-at.at c.args.places.now done)
