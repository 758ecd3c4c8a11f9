use Rattle.std.proofs.Common.{◌∙◌, ◌+◌, ◌-◌, ap, sym, subst, arith, inl, inr}
use Rattle.std.proofs.lemmas.Bool.{cases_eq, cases_lt}
use Rattle.dependence.specs.Conflict.{Conflict}
use Rattle.reorder_list.specs.declared.entry.Entry.{Entry}
use Rattle.reorder_list.specs.Entries.{first_position, entry_at}
use Rattle.reorder_list.specs.Runnable.{AllLetPass, LetsPass}
use Rattle.reorder_list.proofs.Readiness.{one-entry, read-there, read-position}
use Rattle.reorder_list.proofs.Watching.{pass-applied}
use Rattle.reorder_list.proofs.search.blocker.Goals as goal

pub loop-earlier-init : goal.loop-earlier-init
loop-earlier-init c q x low high there clash =
    let entries = c.args.entries.now.items in
    let here = read-there entries c.args.place c.index-entry.result.now c.requires.in_row c.requires.in_range c.index-entry.ensures in
    let end = c.min-end.ensures in
    let l = c.requires.in_range in
    let after = c.place_behind.ensures.later (omega arith) in
    absurd (c.requires.clear q x c.index-entry.result.now (omega arith) high there here clash)

pub returns-then-blocks-clause-some : goal.returns-then-blocks-clause-some
returns-then-blocks-clause-some c =
    let entries = c.args.entries.now.items in
    let at = c.loop-earlier.earlier - 1 in
    let l = c.requires.in_range in
    let some = c.loop-earlier-test.true in
    let top = c.loop-earlier.auto.earlier in
    let here = read-there entries c.args.place c.index-entry.result.now c.requires.in_row c.requires.in_range c.index-entry.ensures in
    let is = read-position entries at c.index-before.result.now c.requires.in_row (omega arith) c.index-before.ensures in
    let found = c.blocks-in-loop-earlier.ensures.blocks c.if-blocks.true in
    record {
      before = omega arith;
      entry = c.index-before.result.now;
      is_there =
          ap (entry_at entries) is ∙ read-there entries at c.index-before.result.now c.requires.in_row (omega arith) c.index-before.ensures;
      unapplied = found.1;
      clash =
          λ e there. subst (λ (x : Entry). Conflict c.index-before.result.now.locks x.locks)
          (one-entry entries (first_position entries + c.args.place) c.index-entry.result.now e here there) found.0;
    }

pub returns-then-blocks-clause-none : goal.returns-then-blocks-clause-none
returns-then-blocks-clause-none c = tt

pub loop-earlier-preserved : goal.loop-earlier-preserved
loop-earlier-preserved c q x low high there =
    let entries = c.args.entries.now.items in
    let at = c.loop-earlier.earlier - 1 in
    let l = c.requires.in_range in
    let some = c.loop-earlier-test.true in
    let top = c.loop-earlier.auto.earlier in
    elim (cases_eq q (first_position entries + at)) [
      | inl same ↦
          (let is =
          one-entry entries (first_position entries + at) c.index-before.result.now x
          (read-there entries at c.index-before.result.now c.requires.in_row (omega arith) c.index-before.ensures)
          (ap (entry_at entries) (sym same) ∙ there) in
          subst (λ z. LetsPass z c.index-entry.result.now) is (c.blocks-in-loop-earlier.ensures.passes c.if-blocks.false))
      | inr ne ↦ c.loop-earlier.invariant q x (omega arith) high there
    ]

pub returns-clause-none : goal.returns-clause-none
returns-clause-none c e there =
    let entries = c.args.entries.now.items in
    let here = read-there entries c.args.place c.index-entry.result.now c.requires.in_row c.requires.in_range c.index-entry.ensures in
    let past = c.loop-earlier-test.false in
    subst (AllLetPass entries (first_position entries + c.args.place))
    (one-entry entries (first_position entries + c.args.place) c.index-entry.result.now e here there)
    (λ q x low is. elim (cases_lt q (first_position entries + c.loop-earlier.earlier)) [
      | inl before ↦
          pass-applied entries c.args.whole c.place_from-earlier-start.result c.index-entry.result.now c.requires.in_row
          c.place_from-earlier-start.ensures.before c.requires.all_applied q x (omega arith) is
      | inr after ↦ c.loop-earlier.invariant q x (omega arith) low is
    ])
