use Rattle.std.proofs.Common.{◌∙◌, ap}
use Rattle.std.specs.List.{list_any}
use Rattle.task_ast.specs.meaning.Held.{is_index}
use Rattle.lock_checker.specs.inner.Pairs.{pairs_in}
use Rattle.lock_checker.proofs.PairLemmas.{index_eq-told, no_index, first_tells}
use Rattle.lock_checker.proofs.held.Pairs.has_index.Goals as goal

pub returns-in-Some : goal.returns-in-Some
returns-in-Some c =
    c.eq.ensures
    ∙ index_eq-told c.as_slice.result c.in-Some.p.now.index
    ∙ first_tells c.as_slice.result c.args.self.now.members c.range.result
    (c.range.ensures.in_range tt) c.in-Some.p.now c.next.new.self c.in-Some.ensures.steps
    ∙ ap (λ x. list_any (is_index x) (pairs_in c.args.self.now)) c.as_slice.ensures

pub returns-in-None : goal.returns-in-None
returns-in-None c =
    no_index c.as_slice.result c.args.self.now.members c.range.result (c.range.ensures.in_range tt) c.in-None.ensures.steps.0
    ∙ ap (λ x. list_any (is_index x) (pairs_in c.args.self.now)) c.as_slice.ensures
