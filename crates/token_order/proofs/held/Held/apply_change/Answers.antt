use Rattle.std.proofs.Common.{None, Some, sym, ap, ◌∙◌}
use Rattle.std.specs.Prelude.{slice_set}
use Rattle.token_order.specs.Owning.{owners_with}
use Rattle.task_ast.proofs.Holds.{set-set}
use Rattle.token_order.proofs.Holds.{changed_since}
use Rattle.token_order.proofs.held.Held.apply_change.Goals as goal
use Rattle.token_order.proofs.held.Held.apply_change.Goals.{in-Some-owner+in_ok-take, in_default-owner}

pub returns-in_err-take-clause-owners : goal.returns-in_err-take-clause-owners
returns-in_err-take-clause-owners c =
    let owners = c.args.self.now.owners.items in
    ap (λ change. owners_with change c.take.new.self.owners.items)
    (c.in_err-take.ensures.change ∙ c.in_ok-release.ensures.change ∙ c.in-Some.is)
    ∙ changed_since c.in-Some.change owners c.take.new.self.owners.items (c.in_err-take.ensures.err ∙ c.in_ok-release.ensures.ok)
    ∙ ap (λ change. owners_with change owners) (sym c.in-Some.is)

pub returns-clause-owners : goal.returns-clause-owners
returns-clause-owners c =
    let owners = c.args.self.now.owners.items in
    let lock = c.in-Some.change.lock in
    elim c.match-change.branch [
      | in-Some-owner+in_ok-take w ↦ (ap (λ held. held.owners.items) w.self-is ∙ w.in_ok-take.ensures.ok
          ∙ ap (λ os. slice_set os lock (Some w.in-Some-owner.t)) c.in_ok-release.ensures.ok
          ∙ set-set owners lock None (Some w.in-Some-owner.t) ∙ ap (slice_set owners lock) (sym w.in-Some-owner.is))
      | in_default-owner w ↦
          (ap (λ held. held.owners.items) w.self-is ∙ c.in_ok-release.ensures.ok ∙ ap (slice_set owners lock) (sym w.in_default-owner.is))
    ]
    ∙ ap (λ change. owners_with change owners) (sym c.in-Some.is)
