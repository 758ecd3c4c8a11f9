use Rattle.std.proofs.Common.{◌≡◌, ◌<◌, ◌≤◌, [], get_or, set, length, rules, ap, subst, ◌∙◌}
use Rattle.std.proofs.lemmas.Grind.{get_or_default_zero}
use Rattle.lock_checker.proofs.LayoutLemmas.{cell_put, cell_passed}
use Rattle.lock_checker.proofs.layout.cells_by_lock.Goals.{in-Some+in_ok-push, in_default}
use Rattle.lock_checker.proofs.layout.cells_by_lock.Goals as goal

pub loop-cell-preserved : goal.loop-cell-preserved
loop-cell-preserved c =
    let over = c.args.over.now in
    let cell = c.loop-cell.cell in
    let lists = c.loop-cell.under.items in
    let lock : c.lock.inside.0 ≡ get_or over cell 0 =
    c.lock.view_is ∙ c.index-over-cell.is ∙ get_or_default_zero over cell _ c.loop-cell-test.true in
    elim c.match-get_mut.branch [
      | in-Some+in_ok-push w ↦
          (let new = w.push.new.self in let cells : w.in-Some.cells.now ≡ get_or lists c.lock.inside.0 [] = search rules in
          ap (λ v. v.items) w.under-is ∙ ap (λ k. set lists k new) lock
          ∙ cell_put over c.args.locks cell lists c.loop-cell-test.true c.loop-cell.invariant w.in-Some.cells.now new
          (subst (λ k. k < length lists) lock (search rules)) (cells ∙ ap (λ k. get_or lists k []) lock) w.in_ok-push.ensures.ok)
      | in_default w ↦
          (ap (λ v. v.items) w.under-is ∙ cell_passed over c.args.locks cell lists c.loop-cell-test.true c.loop-cell.invariant
          (subst (λ k. length lists ≤ k) lock (search rules)))
    ]
