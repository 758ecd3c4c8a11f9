use Rattle.std.proofs.Common.{◌∙◌, subst, sym}
use Rattle.task_ast.specs.meaning.Held.{without}
use Rattle.lock_checker.specs.inner.Pairs.{pair_of, pairs_of, pairs_in, Moves}
use Rattle.lock_checker.proofs.ChangeLemmas.{remove_member, remove_other}
use Rattle.lock_checker.proofs.held.Pairs.remove.Goals as goal

pub returns-in_ok-change : goal.returns-in_ok-change
returns-in_ok-change c =
    subst (λ l. Moves (pairs_in c.args.self.now) (pairs_of l) (pairs_in c.change.new.self)
    (without (pairs_in c.args.self.now) (pair_of c.args.p))) (sym c.in_ok-change.ensures.0)
    (remove_member (pairs_in c.args.self.now) (pair_of c.args.p) (pairs_in c.change.new.self)
    (sym c.has.ensures ∙ c.if-has.true) c.in_ok-change.ensures.1)

pub returns-else-has : goal.returns-else-has
returns-else-has c =
    subst (λ l. Moves (pairs_in c.args.self.now) (pairs_of l) (pairs_in c.args.self.now)
    (without (pairs_in c.args.self.now) (pair_of c.args.p))) (sym c.new.ensures.items)
    (remove_other (pairs_in c.args.self.now) (pair_of c.args.p) (sym c.has.ensures ∙ c.if-has.false))
