use Rattle.std.proofs.Common.{◌≡◌, ◌+◌, ◌<◌, ◌≤◌, T, leb→le, ◌⊎◌, ap, sym, subst, arith}
use Rattle.std.proofs.lemmas.Bool.{eqb-true}
use Rattle.reorder_list.specs.declared.marks.Marks.{Marks}
use Rattle.reorder_list.specs.Entries.{first_position}
use Rattle.reorder_list.specs.Runnable.{IsRunnable}
use Rattle.reorder_list.specs.Watched.{AreMarks}
use Rattle.reorder_list.proofs.Watching.{found-within, both-found, looked-at, none-then, none-so, to-place, asleep-narrowed, marks-wider}
use Rattle.reorder_list.proofs.search.first_woken.Goals as goal

pub returns-clause-found : goal.returns-clause-found
returns-clause-found c =
    let entries = c.args.entries.now.items in
    let end = c.min-end.ensures in
    let behind = c.min-behind.ensures in
    let ok = c.place_from.ensures.within in
    let max = c.max.ensures in
    let from = c.from.view_is in
    let fresh = ap (λ (m : Marks). m.fresh) c.marks.view_is in
    let one =
    found-within entries c.look-found.result (IsRunnable entries) c.place_from-start.result c.min-end.result c.max.result c.args.from
    c.args.marks.now.fresh c.place_from.result (omega arith) (omega arith) (λ l. (let t = c.place_from-start.ensures.later l in omega arith)) (omega arith)
    (subst (λ n. (c.place_from.result ≡ 0) ⊎ (first_position entries + c.place_from.result ≤ n)) fresh c.place_from.ensures.before)
    c.look-found.ensures.found in
    let two =
    found-within entries c.look-found.result (IsRunnable entries) c.place_from-start.result c.min-end.result c.max.result c.args.from
    c.args.below c.place_from-2.result (omega arith) (omega arith) (λ l. (let t = c.place_from-start.ensures.later l in omega arith)) (omega arith)
    c.place_from-2.ensures.before c.look-found.ensures.found in
    both-found c.look-found.result c.args.from c.args.marks.now.fresh c.args.below (IsRunnable entries) one two

pub returns-clause-looked : goal.returns-clause-looked
returns-clause-looked c q low last before from below some =
    let entries = c.args.entries.now.items in
    let end = c.min-end.ensures in
    let behind = c.min-behind.ensures in
    let max = c.max.ensures in
    let from_is = c.from.view_is in
    let fresh_is = ap (λ (m : Marks). m.fresh) c.marks.view_is in
    let low_is = ap (λ (m : Marks). m.low) c.marks.view_is in
    let last_is = ap (λ (m : Marks). m.last) c.marks.view_is in
    looked-at entries c.look-found.new.watches.items c.look-found.result q c.place_from-start.result c.min-end.result c.max.result
    c.requires.in_row c.place_from-start.ensures.before (omega arith) some
    (λ e there. none-so c.look-found.result (q < first_position entries + c.min-end.result)
    (let a = to-place entries q e c.place_behind.result (c.args.marks.now.last + 1) c.requires.in_row there
    (λ l. (let t = c.place_behind.ensures.later l in omega arith)) (omega arith) in
    let b = to-place entries q e c.place_from.result c.args.marks.now.fresh c.requires.in_row there
    (λ l. (let t = c.place_from.ensures.later l in omega arith)) (omega arith) in
    let d = to-place entries q e c.place_from-2.result c.args.below c.requires.in_row there c.place_from-2.ensures.later (omega arith) in
    omega arith))
    c.look-found.ensures.looked

pub returns-clause-marks : goal.returns-clause-marks
returns-clause-marks c =
    let entries = c.args.entries.now.items in
    let end = c.min-end.ensures in
    let behind = c.min-behind.ensures in
    let max = c.max.ensures in
    let from_is = c.from.view_is in
    let fresh_is = ap (λ (m : Marks). m.fresh) c.marks.view_is in
    let low_is = ap (λ (m : Marks). m.low) c.marks.view_is in
    let last_is = ap (λ (m : Marks). m.last) c.marks.view_is in
    subst (AreMarks entries c.look-found.new.watches.items) (sym c.narrow.ensures)
    (asleep-narrowed entries c.look-found.new.watches.items c.args.marks.now _ c.look-found.result _
    (λ follows q before low last some all.
    (let order = leb→le _ _ (subst T (sym follows) tt) in
    looked-at entries c.look-found.new.watches.items c.look-found.result q c.place_from-start.result c.min-end.result c.max.result
    c.requires.in_row c.place_from-start.ensures.before (omega arith) some
    (λ e there. none-then c.look-found.result _ (q < first_position entries + c.min-end.result)
    (λ whole. (let same = eqb-true c.min-end.result c.min-behind.result whole in
    let a = to-place entries q e c.place_behind.result (c.args.marks.now.last + 1) c.requires.in_row there
    (λ l. (let t = c.place_behind.ensures.later l in omega arith)) (omega arith) in
    let b = to-place entries q e c.place_from.result c.args.marks.now.fresh c.requires.in_row there
    (λ l. (let t = c.place_from.ensures.later l in omega arith)) (omega arith) in
    omega arith)) all)
    c.look-found.ensures.looked))
    (marks-wider entries c.args.watches.now.items c.look-found.new.watches.items c.args.marks.now c.look-found.ensures.wider c.requires.marks))
