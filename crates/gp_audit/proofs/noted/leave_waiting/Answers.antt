use Rattle.std.proofs.Common.{rules, ◌≡◌, nat_eq, not, refl}
use Rattle.gp_audit.proofs.Sifted.{sifted}
use Rattle.gp_audit.proofs.noted.leave_waiting.Goals as goal

pub returns-then-applies : goal.returns-then-applies
returns-then-applies c =
    rw c.if-applies.true
    (sifted _ (λ f. f.0.now ≡ c.args.position) (λ q. not (nat_eq q c.args.position))
    (λ f x b g is called. (search rules, search rules)) _ refl _ _ c.retain.ensures.filtered)
