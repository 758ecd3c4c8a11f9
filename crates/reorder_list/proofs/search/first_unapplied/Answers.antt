use Rattle.std.proofs.Common.{◌∙◌, true, sym, arith}
use Rattle.reorder_list.specs.Entries.{is_applied}
use Rattle.reorder_list.proofs.Watching.{below-first, below-more, below-here}
use Rattle.reorder_list.proofs.search.first_unapplied.Goals as goal

pub loop-place-init : goal.loop-place-init
loop-place-init c = (
  c.requires.all_applied,
  below-first is_applied true c.args.entries.now.items c.args.whole c.place_from-place.result c.requires.in_row
      c.place_from-place.ensures.before c.requires.all_applied,
)

pub returns-then-not-is_applied : goal.returns-then-not-is_applied
returns-then-not-is_applied c =
    let ok = c.args.entries.now.ok in
    let within = c.loop-place-test.true in
    below-here is_applied true c.args.entries.now.items c.loop-place.place c.index.result.now c.requires.in_row
    (omega arith) c.index.ensures c.loop-place.invariant.1

pub loop-place-preserved : goal.loop-place-preserved
loop-place-preserved c =
    let ok = c.args.entries.now.ok in
    let within = c.loop-place-test.true in (
      below-here is_applied true c.args.entries.now.items c.loop-place.place c.index.result.now c.requires.in_row
          (omega arith) c.index.ensures c.loop-place.invariant.1,
      below-more is_applied true c.args.entries.now.items c.loop-place.place c.index-in-loop-place.result.now c.requires.in_row
          (omega arith) c.index-in-loop-place.ensures
          (sym c.is_applied.ensures ∙ c.if-not-is_applied.false) c.loop-place.invariant.1,
    )
