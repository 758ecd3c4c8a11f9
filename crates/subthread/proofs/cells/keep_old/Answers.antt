use Rattle.std.proofs.Common.{ap, sym, ◌∙◌, SFits, w64, rules, is_some, cond}
use Rattle.std.specs.Ordering.{nat_cmp}
use Rattle.std.specs.FinMap.{put}
use Rattle.std.proofs.lemmas.Int.{to_z-of_z}
use Rattle.subthread.proofs.Entries.{inserted, looked_up}
use Rattle.subthread.proofs.cells.keep_old.Goals as goal

pub returns-clause-ok : goal.returns-clause-ok
returns-clause-ok c =
    let fits : SFits w64 c.args.value = search rules in
    (rw (to_z-of_z w64 c.args.value fits) at c.in_ok-insert.ensures.entries) ∙ inserted c.args.olds.now.entries c.args.cell c.args.value
    ∙ sym (ap (λ b. cond b c.args.olds.now.entries (put nat_cmp c.args.cell c.args.value c.args.olds.now.entries))
    (ap is_some (sym (looked_up c.args.olds.now.entries c.args.cell)) ∙ sym c.contains_key.ensures ∙ c.if-contains_key.false))
