use Rattle.std.proofs.Common.{rules, ◌∙◌, ◌++◌, ◌∷◌, [], ap}
use Rattle.lock_checker.specs.inner.Positions.{positions}
use Rattle.lock_checker.proofs.LayoutLemmas.{map-push}
use Rattle.lock_checker.proofs.layout.empty_lists.Goals as goal

pub loop-lock-preserved : goal.loop-lock-preserved
loop-lock-preserved c =
    c.in_ok-push.ensures.items ∙ ap (λ l. c.loop-lock.lists.items ++ l ∷ []) c.new.ensures
    ∙ map-push (positions 0 []) c.loop-lock.lists.items c.loop-lock._lock c.loop-lock.invariant

pub loop-lock-init : goal.loop-lock-init
loop-lock-init c = search rules
