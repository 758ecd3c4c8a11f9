use Rattle.std.proofs.Common.{sym, ◌∙◌, SFits, w64, rules, map}
use Rattle.std.proofs.lemmas.Int.{to_z-of_z}
use Rattle.record_store.specs.Lent.{new_write}
use Rattle.subthread.proofs.Struck.{spared}
use Rattle.subthread.proofs.cells.damage.Goals as goal

pub returns-else-not-is_zero-clause-written : goal.returns-else-not-is_zero-clause-written
returns-else-not-is_zero-clause-written c =
    let fits : SFits w64 c.args.mask = search rules in
    let test = rw (to_z-of_z w64 c.args.mask fits) at c.is_zero.ensures in
    spared c.args.mask (sym test ∙ c.if-not-is_zero.false) (map (new_write c.args.under.now c.args.bundles.now) c.args.olds.now)
