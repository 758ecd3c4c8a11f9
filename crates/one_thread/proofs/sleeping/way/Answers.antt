use Rattle.std.proofs.Common.{refl, ap, sym, unwrap_or}
use Rattle.one_thread.proofs.Looking.{at-get}
use Rattle.one_thread.proofs.sleeping.way.Goals as goal

pub returns-in-Some : goal.returns-in-Some
returns-in-Some c =
    let at = c.in-Some.ensures.lookup in
    ap (λ o. unwrap_or o 0) (sym (at-get c.args.ways.now c.args.ways.now c.args.t c.in-Some.way.now refl at.0 at.1))
