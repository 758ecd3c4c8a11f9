use Rattle.std.proofs.Common.{◌∙◌, map, arith}
use Rattle.std.proofs.lemmas.List.{same_lists, length-map}
use Rattle.subthread.specs.inner.Hand.{written_to}
use Rattle.subthread.proofs.erring.same_writes.Goals as goal

pub returns : goal.returns
returns c =
    let long = length-map c.args.changes.now written_to in
    λ is.
    same_lists (map written_to c.args.changes.now) c.args.writes.now (long ∙ c.if-changes-writes.false)
    (λ k d less. c.comparing.invariant k d (omega (arith, long, less, c.comparing-test.false)))
