use Rattle.std.proofs.Common.{◌≡◌, [], MatchOption, unwrap_or, ap, sym, ◌∙◌, subst}
use Rattle.subthread.specs.meaning.Flaws.{Strikes}
use Rattle.subthread.specs.declared.flaw.Made.{Made}
use Rattle.subthread.proofs.recheck.Recheck.flaw_of.Goals as goal

pub returns-in-Some : goal.returns-in-Some
returns-in-Some c =
    let same : c.as_slice.result.now ≡ unwrap_or c.args.self.now [] = c.as_slice.ensures ∙ ap (λ o. unwrap_or o []) (sym c.in-Some.is ∙ c.self.view_is) in
    subst (λ flaws. MatchOption c.flaw_among.result ((made : Made) → Strikes flaws c.args.pos c.args.attempt c.args.walk made → ⊥)
    (λ made. Strikes flaws c.args.pos c.args.attempt c.args.walk made.now)) same c.flaw_among.ensures
