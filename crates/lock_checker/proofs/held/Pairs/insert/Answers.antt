use Rattle.std.proofs.Common.{◌∙◌, ◌++◌, ◌∷◌, [], subst, sym}
use Rattle.lock_checker.specs.inner.Pairs.{pair_of, pairs_of, pairs_in, Moves}
use Rattle.lock_checker.proofs.ChangeLemmas.{insert_member, insert_other}
use Rattle.lock_checker.proofs.held.Pairs.insert.Goals as goal

pub returns-then-has : goal.returns-then-has
returns-then-has c =
    subst (λ l. Moves (pairs_in c.args.self.now) (pairs_of l) (pairs_in c.args.self.now)
    (pairs_in c.args.self.now ++ pair_of c.args.p ∷ [])) (sym c.new.ensures.items)
    (insert_member (pairs_in c.args.self.now) (pair_of c.args.p) (sym c.has.ensures ∙ c.if-has.true))

pub returns-in_ok-change : goal.returns-in_ok-change
returns-in_ok-change c =
    subst (λ l. Moves (pairs_in c.args.self.now) (pairs_of l) (pairs_in c.change.new.self)
    (pairs_in c.args.self.now ++ pair_of c.args.p ∷ [])) (sym c.in_ok-change.ensures.0)
    (insert_other (pairs_in c.args.self.now) (pair_of c.args.p) (pairs_in c.change.new.self)
    (sym c.has.ensures ∙ c.if-has.false) c.in_ok-change.ensures.1)
