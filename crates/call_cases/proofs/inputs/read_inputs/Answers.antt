use Rattle.std.proofs.Common.{◌∙◌, Err, length, map, refl, sym, ap, subst}
use Rattle.task_ast.specs.Inputs.{fields_in}
use Rattle.call_cases.specs.meaning.InputFiles.{room_after}
use Rattle.call_cases.specs.InputFiles.{names_in}
use Rattle.call_cases.specs.inner.Loading.{seen}
use Rattle.call_cases.specs.Refusals.{ReadsAmong}
use Rattle.call_cases.proofs.Loads.{loads_more, loads_stop, loads_given, loads_none, among_all, readable_at}
use Rattle.call_cases.proofs.Sizes.{counts_more, counts_all}
use Rattle.call_cases.proofs.inputs.read_inputs.Goals as goal

pub returns-in-Err-clause-failed : goal.returns-in-Err-clause-failed
returns-in-Err-clause-failed g c =
    let inv = c.loop-head.invariant in
    let among =
    subst (λ before. ReadsAmong {T = Unit {0}} (names_in c.head-item.result) before (g.H.Shelf.failed c.load_head.new.shelf)
    (Err c.in-Err.refusal)) inv.failed c.in-Err.ensures.failed in
    among_all c.args.heads.now c.loop-head.head-index c.head-item.result _ _ c.in-Err.refusal c.loop-head-test.true c.head-item.is among

pub returns-in-Err-clause-told : goal.returns-in-Err-clause-told
returns-in-Err-clause-told g c =
    let inv = c.loop-head.invariant in
    loads_stop (g.H.Shelf.files c.loop-head.shelf)
    (g.H.Shelf.files c.args.shelf.now) c.args.heads.now c.loop-head.head-index c.head-item.result (seen c.loop-head.loading)
    (seen c.load_head.new.loading) _ _ c.in-Err.refusal
    inv.kept c.loop-head-test.true c.head-item.is inv.told c.in-Err.ensures.told c.in-Err.ensures.failed

pub loop-head-preserved : goal.loop-head-preserved
loop-head-preserved g c =
    let inv = c.loop-head.invariant in
    record {
      kept = c.in-Ok.ensures.kept ∙ inv.kept;
      failed = c.in-Ok.ensures.failed ∙ inv.failed;
      room = c.in-Ok.ensures.room;
      counts =
          counts_more c.args.heads.now c.loop-head.head-index c.head-item.result (seen c.loop-head.loading)
          (seen c.load_head.new.loading) c.loop-head-test.true c.head-item.is inv.counts c.in-Ok.ensures.grows;
      readable =
          (readable_at c.args.heads.now c.loop-head.head-index c.head-item.result c.loop-head-test.true c.head-item.is inv.readable).1;
      told =
          loads_more (g.H.Shelf.files c.loop-head.shelf)
          (g.H.Shelf.files c.args.shelf.now) c.args.heads.now c.loop-head.head-index c.head-item.result (seen c.loop-head.loading)
          (seen c.load_head.new.loading)
          inv.kept c.loop-head-test.true c.head-item.is inv.told c.in-Ok.ensures.told;
    }

pub loop-head-init : goal.loop-head-init
loop-head-init g c =
    let records = c.new.ensures.items in
    let feeds = c.new-2.ensures.items in
    record {
      kept = refl;
      failed = refl;
      room = sym (ap room_after feeds);
      counts = record { records = ap length records; feeds = ap (map fields_in) feeds };
      readable = c.requires;
      told =
          loads_none (g.H.Shelf.files c.args.shelf.now) c.args.heads.now
          (record { records = c.new.result.items; feeds = c.new-2.result.items }) records feeds;
    }

pub returns-clause-told : goal.returns-clause-told
returns-clause-told g c =
    loads_given (g.H.Shelf.files c.args.shelf.now) c.args.heads.now c.loop-head.head-index (seen c.loop-head.loading)
    (record { records = c.from_vec.result; feeds = c.from_vec-2.result }) c.loop-head-test.false c.from_vec.ensures
    c.from_vec-2.ensures c.loop-head.invariant.told

pub returns-clause-counts : goal.returns-clause-counts
returns-clause-counts g c =
    let all =
    counts_all c.args.heads.now c.loop-head.head-index (seen c.loop-head.loading) c.loop-head-test.false
    c.loop-head.invariant.counts in
    record {
      records = ap length c.from_vec.ensures ∙ all.records;
      feeds = ap (map fields_in) c.from_vec-2.ensures ∙ all.feeds;
    }
