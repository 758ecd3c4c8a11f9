use Rattle.std.proofs.Common.{subst}
use Rattle.lock_checker.specs.inner.Pairs.{pairs_of, pairs_in, Leads}
use Rattle.lock_checker.proofs.ChangeLemmas.{alike_told}
use Rattle.lock_checker.proofs.held.lead_alike.Goals as goal

pub returns : goal.returns
returns c =
    alike_told c.is_empty.result (pairs_in c.flip_all.new.self) (pairs_in c.flip_all-2.new.self) (pairs_of c.args.first.now)
    (pairs_of c.args.second.now) c.is_empty.ensures
    (subst (λ l. Leads l (pairs_of c.args.first.now) (pairs_in c.flip_all.new.self)) c.new-net.ensures c.in_ok-flip_all.ensures)
    c.in_ok-flip_all-2.ensures
