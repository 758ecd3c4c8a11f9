use Rattle.std.proofs.Common.{◌≡◌, ◌∙◌, ◌+◌, length, Some, None, ap, sym, subst}
use Rattle.reorder_list.specs.Entries.{known_foot}
use Rattle.reorder_list.specs.Touching.{IsMarked}
use Rattle.restart.proofs.Marked.{foot_in, length-push, one-marked}
use Rattle.restart.proofs.redoing.redo_one.Goals as goal

pub returns-in-Some-foot-clause-marked : goal.returns-in-Some-foot-clause-marked
returns-in-Some-foot-clause-marked c =
    let entries = c.args.rol.now.entries in
    let redo = c.args.redo.now.items in
    let known : known_foot entries c.args.p ≡ Some c.in-Some-foot.foot = sym (ap foot_in c.in-Some.ensures) ∙ c.in-Some-foot.is in
    let many : c.len.result ≡ length redo + 1 = c.len.ensures ∙ (ap length c.push.ensures.items ∙ length-push redo c.args.p) in
    let marked = rw many at c.mark.ensures.marked in
    rw c.push.ensures.items
    (one-marked entries redo c.args.touched.now c.mark.new.self c.args.p c.requires.marked c.mark.ensures.kept
    (λ foot is. (let both : Some c.in-Some-foot.foot ≡ Some foot = sym known ∙ is in
    let same : c.in-Some-foot.foot ≡ foot = cc both in subst (IsMarked c.mark.new.self (length redo + 1)) same marked)))

pub returns-in_default-foot-clause-marked : goal.returns-in_default-foot-clause-marked
returns-in_default-foot-clause-marked c =
    let entries = c.args.rol.now.entries in
    let redo = c.args.redo.now.items in
    let unknown : known_foot entries c.args.p ≡ None = sym (ap foot_in c.in-Some.ensures) ∙ c.in_default-foot.is in
    rw c.push.ensures.items
    (one-marked entries redo c.args.touched.now c.args.touched.now c.args.p c.requires.marked (λ many foot marked. marked)
    (λ foot is. (let both : None ≡ Some foot = sym unknown ∙ is in absurd (cc both))))
