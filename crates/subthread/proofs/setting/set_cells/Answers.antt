use Rattle.std.proofs.Common.{◌≡◌, ◌++◌, true, map, refl, sym, ap, subst, ◌∙◌}
use Rattle.std.specs.Prelude.{All, pos}
use Rattle.task_ast.specs.meaning.Under.{is_under}
use Rattle.record_store.specs.Lent.{lock_in, new_write}
use Rattle.subthread.specs.inner.Hand.{Hand, damaged_write}
use Rattle.subthread.specs.Tasks.{under_of}
use Rattle.subthread.proofs.Struck.{spared}
use Rattle.subthread.proofs.setting.set_cells.Goals as goal

pub write_each-requires-clause-under : goal.write_each-requires-clause-under
write_each-requires-clause-under c =
    subst (λ (h : Hand). All (λ w. is_under h.under (map lock_in h.came) w.0 ≡ true) c.args.writes.now) (sym c.cells_of-cells.ensures)
    c.requires.under

pub returns-in-Ok-clause-written : goal.returns-in-Ok-clause-written
returns-in-Ok-clause-written c =
    let left = c.in-Ok.left in
    let now : c.write_each.new.cells ≡ record { under = under_of c.args.work.now; came = c.args.bundles; written = c.args.writes.now } =
    c.in_ok-write_each.ensures ∙ ap (λ (h : Hand). record h { written = h.written ++ c.args.writes.now }) c.cells_of-cells.ensures in
    ap (λ (h : Hand). map (new_write h.under left.0) left.1) (sym now)
    ∙ c.in-Ok.ensures.written
    ∙ ap (λ (h : Hand). map (damaged_write (pos 0)) h.written) now
    ∙ sym (spared (pos 0) refl c.args.writes.now)
