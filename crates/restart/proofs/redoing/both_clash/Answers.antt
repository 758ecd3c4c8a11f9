use Rattle.std.proofs.Common.{◌≡◌, ◌∙◌, sym}
use Rattle.dependence.specs.meaning.Conflict.{conflicting}
use Rattle.dependence.proofs.Conflicting.{conflicting-is}
use Rattle.restart.specs.Redo.{clash_between}
use Rattle.restart.proofs.redoing.both_clash.Goals as goal

pub returns-in-Some-Some : goal.returns-in-Some-Some
returns-in-Some-Some c =
    let first = c.in-Some-Some.first in
    let second = c.in-Some-Some.second in
    let is : clash_between c.args.earlier.now.foot c.args.later.now.foot ≡ conflicting first second =
    (λ i. clash_between (c.in-Some-Some.is-0 i) (c.in-Some-Some.is-1 i)) in (
      λ t. is ∙ (conflicting-is first second).1 (c.conflict.ensures.0 t),
      λ clash. c.conflict.ensures.1 ((conflicting-is first second).0 (sym is ∙ clash)),
    )
