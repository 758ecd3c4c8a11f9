use Rattle.std.proofs.Common.{refl, ap, sym, unwrap_or}
use Rattle.one_thread.proofs.Looking.{at-get}
use Rattle.one_thread.proofs.turns.stated.Goals as goal

pub returns-in-Some : goal.returns-in-Some
returns-in-Some c =
    let at = c.in-Some.ensures.lookup in
    ap (λ o. unwrap_or o 0) (sym (at-get c.args.barriers.now c.args.barriers.now c.args.barrier c.in-Some.number.now refl at.0 at.1))
