use Rattle.std.proofs.Common.{sym, ◌∙◌}
use Rattle.std.specs.Cmp.Rules.{signed_items}
use Rattle.subthread.proofs.attempts.same_numbers.Goals as goal

pub returns : goal.returns
returns c =
    let items = signed_items c.args.a.now c.args.b.now in
    (λ is. items.0 (sym c.eq.ensures ∙ is), λ same. c.eq.ensures ∙ items.1 same)
