use Rattle.std.proofs.Common.{◌≡◌, sym, subst, ◌∙◌}
use Rattle.std.specs.Prelude.{All}
use Rattle.std.proofs.lemmas.List.Elements.{All-push}
use Rattle.subthread.specs.declared.flaw.Flaw.{Flaw}
use Rattle.twice_tests.proofs.flawed.machine.Goals as goal

pub adding-preserved : goal.adding-preserved
adding-preserved c =
    subst (All (λ (f : Flaw). f.made.pc ≡ f.walk)) (sym c.in_ok-push.ensures.ok)
    (All-push (λ (f : Flaw). f.made.pc ≡ f.walk) c.adding.flaws c.flaw.result c.adding.invariant (c.flaw.ensures.made ∙ sym c.flaw.ensures.walk))
