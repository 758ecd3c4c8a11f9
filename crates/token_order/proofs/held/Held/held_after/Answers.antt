use Rattle.std.proofs.Common.{◌≡◌, ◌<◌, length, sym, ap, subst, rules, ◌∙◌, IfOk, IfSome}
use Rattle.token_order.specs.Owning.{locks_with, owners_now}
use Rattle.token_order.proofs.Holds.{locks_twice, length-with, for_some}
use Rattle.token_order.proofs.held.Held.held_after.Goals as goal

pub returns : goal.returns
returns c =
    let held = c.args.self.now in
    let t = c.args.t in
    let change = c.change_of-change.result in
    let owners = held.owners.items in
    let long : length owners ≡ c.len.result = search rules in
    let told = c.change_of-change.ensures.told (owners_now held) (length-with held.change owners ∙ long) in
    let inside =
    for_some (λ last. last.lock < length owners) change
    (subst (λ n. IfSome change (λ last. last.lock < n)) (sym long) c.change_of-change.ensures.within) in
    subst (λ locks. IfOk c.locks_with_both.result (λ numbers. numbers ≡ locks))
    (ap (locks_with change t) (ap (locks_with held.change t) (c.of.ensures ∙ c.requires.each t))
    ∙ locks_twice held.change change owners _ t c.requires.within inside told)
    c.locks_with_both.ensures
