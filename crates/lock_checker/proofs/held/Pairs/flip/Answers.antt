use Rattle.std.proofs.Common.{◌∙◌, sym, true, false, ap, rules}
use Rattle.std.specs.Prelude.{cond}
use Rattle.std.specs.List.{list_any}
use Rattle.std.specs.BTreeMap.{is_at}
use Rattle.lock_checker.proofs.PairLemmas.{pair_cmp, flipped}
use Rattle.lock_checker.proofs.held.Pairs.flip.Goals as goal

pub returns-in_ok-insert : goal.returns-in_ok-insert
returns-in_ok-insert c =
    flipped c.args.p c.args.self.now.members.keys c.insert.new.self.keys false (sym c.remove.ensures.test ∙ search rules)
    (λ k. c.in_ok-insert.ensures.updates.0 k ∙ ap
    (λ l. cond (is_at (pair_cmp c.args.p) k) true (list_any (is_at (pair_cmp k)) l)) (search rules))

pub returns-else-not-remove : goal.returns-else-not-remove
returns-else-not-remove c =
    flipped c.args.p c.args.self.now.members.keys c.remove.new.self.keys true
    (sym c.remove.ensures.test ∙ search rules) c.remove.ensures.updates.0
