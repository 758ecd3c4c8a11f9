use Rattle.std.proofs.Common.{arith, refl}
use Rattle.std.proofs.lemmas.List.{same_lists}
use Rattle.subthread.proofs.attempts.same_lines.Goals as goal

pub returns : goal.returns
returns c = (
  λ is.
      same_lists c.args.a.now c.args.b.now c.if-a-b.false (λ k d less. c.comparing.invariant k d (omega (arith, c.comparing-test.false))),
  λ same. refl,
)
