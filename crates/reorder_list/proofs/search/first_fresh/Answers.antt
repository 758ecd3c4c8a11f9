use Rattle.std.proofs.Common.{◌+◌, ◌<◌, T, leb→le, ap, sym, subst, arith}
use Rattle.reorder_list.specs.declared.marks.Marks.{Marks}
use Rattle.reorder_list.specs.Entries.{first_position}
use Rattle.reorder_list.specs.Runnable.{IsRunnable}
use Rattle.reorder_list.specs.Watched.{AreMarks}
use Rattle.reorder_list.proofs.Watching.{found-within, looked-at, none-so, from-place, to-place, asleep-refreshed, marks-wider}
use Rattle.reorder_list.proofs.search.first_fresh.Goals as goal

pub returns-clause-found : goal.returns-clause-found
returns-clause-found c =
    let entries = c.args.entries.now.items in
    let ok = c.place_from-end.ensures.within in
    let max = c.max.ensures in
    let from = c.from.view_is in
    found-within entries c.look-found.result (IsRunnable entries) c.place_from-start.result c.place_from-end.result c.max.result c.args.from
    c.args.below c.place_from-end.result ok (omega arith) (λ l. (let t = c.place_from-start.ensures.later l in omega arith)) (omega arith)
    c.place_from-end.ensures.before c.look-found.ensures.found

pub returns-clause-looked : goal.returns-clause-looked
returns-clause-looked c q fresh from below some =
    let entries = c.args.entries.now.items in
    let max = c.max.ensures in
    let from_is = c.from.view_is in
    let fresh_is = ap (λ (m : Marks). m.fresh) c.marks.view_is in
    looked-at entries c.look-found.new.watches.items c.look-found.result q c.place_from-start.result c.place_from-end.result c.max.result
    c.requires.in_row c.place_from-start.ensures.before (omega arith) some
    (λ e there. none-so c.look-found.result (q < first_position entries + c.place_from-end.result)
    (to-place entries q e c.place_from-end.result c.args.below c.requires.in_row there c.place_from-end.ensures.later below))
    c.look-found.ensures.looked

pub returns-clause-marks : goal.returns-clause-marks
returns-clause-marks c =
    let entries = c.args.entries.now.items in
    let max = c.max.ensures in
    let from_is = c.from.view_is in
    let fresh_is = ap (λ (m : Marks). m.fresh) c.marks.view_is in
    let reached = c.reached.ensures in
    subst (AreMarks entries c.look-found.new.watches.items) (sym c.refresh.ensures)
    (asleep-refreshed entries c.look-found.new.watches.items c.args.marks.now _ c.reached.result
    (λ follows q fresh before e there waits.
    (let order = leb→le _ _ (subst T (sym follows) tt) in
    c.look-found.ensures.looked q
    (from-place entries q e c.place_from-start.result c.max.result c.requires.in_row there c.place_from-start.ensures.before (omega arith))
    (omega arith) e there waits))
    (marks-wider entries c.args.watches.now.items c.look-found.new.watches.items c.args.marks.now c.look-found.ensures.wider c.requires.marks))
