use Rattle.std.proofs.Common.{◌≡◌, ◌∙◌, Some, None, ap, sym, arith}
use Rattle.std.proofs.lemmas.Bool.{false≢true}
use Rattle.reorder_list.specs.Entries.{known_foot}
use Rattle.restart.proofs.Marked.{foot_in, none-unknown, first-tell}
use Rattle.restart.proofs.redoing.depends.Goals as goal

pub returns-in_default : goal.returns-in_default
returns-in_default c =
    let unknown : known_foot c.args.rol.now.entries c.args.p ≡ None = sym (ap foot_in c.in_default.ensures) in
    let none = none-unknown c.args.rol.now.entries c.args.redo.now c.args.p unknown in (
      λ wrong. absurd (cc wrong),
      λ clash. absurd (false≢true (sym none ∙ clash)),
    )

pub returns-in_default-foot : goal.returns-in_default-foot
returns-in_default-foot c =
    let unknown : known_foot c.args.rol.now.entries c.args.p ≡ None = sym (ap foot_in c.in-Some.ensures) ∙ c.in_default-foot.is in
    let none = none-unknown c.args.rol.now.entries c.args.redo.now c.args.p unknown in (
      λ wrong. absurd (cc wrong),
      λ clash. absurd (false≢true (sym none ∙ clash)),
    )

pub returns : goal.returns
returns c =
    let known : known_foot c.args.rol.now.entries c.args.p ≡ Some c.in-Some-foot.foot =
    sym (ap foot_in c.in-Some.ensures) ∙ c.in-Some-foot.is in
    let tell =
    first-tell c.args.rol.now.entries c.args.redo.now c.args.touched.now c.args.p c.last.result c.min-many.result c.in-Some-foot.foot
    c.requires known c.last.ensures (λ k from less. (let is = c.min-many.ensures in omega arith)) in (
      λ t. sym tell ∙ c.is_reached.ensures.0 t,
      λ clash. c.is_reached.ensures.1 (tell ∙ clash),
    )
