use Rattle.std.proofs.Common.{◌∙◌, ◌∷◌, [], None, ap}
use Rattle.std.specs.Prelude.{if◌then◌else◌}
use Rattle.task_ast.specs.declared.check_kind.CheckKind.TheVariants.{HeldAtEnd}
use Rattle.task_ast.specs.meaning.Visit.{fault_at}
use Rattle.lock_checker.specs.inner.Pairs.{pairs_in}
use Rattle.lock_checker.proofs.ChangeLemmas.{end_held}
use Rattle.lock_checker.proofs.program.check_end.Goals as goal

pub returns-then-is_empty : goal.returns-then-is_empty
returns-then-is_empty c = λ after same.
    ap (λ kinds. fault_at c.args.line kinds None)
    (end_held c.is_empty.result (pairs_in c.args.held.now) after c.is_empty.ensures same
    ∙ ap (λ b. if b then [] else HeldAtEnd ∷ []) c.if-is_empty.true)

pub returns-else-is_empty : goal.returns-else-is_empty
returns-else-is_empty c = λ after same.
    ap (λ kinds. fault_at c.args.line kinds None)
    (end_held c.is_empty.result (pairs_in c.args.held.now) after c.is_empty.ensures same
    ∙ ap (λ b. if b then [] else HeldAtEnd ∷ []) c.if-is_empty.false)
