use Rattle.std.proofs.Common.{◌∙◌, ap, refl, subst, [], ◌∷◌, Some, None}
use Rattle.std.specs.Prelude.{not, if◌then◌else◌}
use Rattle.task_ast.specs.declared.check_kind.CheckKind.TheVariants.{BranchesDiffer}
use Rattle.task_ast.specs.meaning.Held.{same_pairs}
use Rattle.task_ast.specs.meaning.Visit.{visit, fails_if}
use Rattle.lock_checker.specs.inner.Faults.{WalksAside}
use Rattle.lock_checker.specs.inner.Pairs.{pairs_of, TellsAlike}
use Rattle.lock_checker.proofs.EndLemmas.{told_between, end_told, unchanged}
use Rattle.lock_checker.proofs.ends.end_loop.Goals as goal

pub returns-in-Err : goal.returns-in-Err
returns-in-Err c = λ old new visits end walks.
    told_between c.in-Err.fault [] visits (visit c.args.line (fails_if (not (same_pairs end old)) BranchesDiffer) ∷ []) refl
    (subst (λ r. WalksAside r old new visits end) c.in-Err.is walks)

pub returns-then-branch : goal.returns-then-branch
returns-then-branch c = λ old new visits end walks.
    let w = subst (λ r. WalksAside r old new visits end) c.in-Ok.is walks in
    let body = pairs_of c.in-Ok.changes.items in
    let tells = subst (λ l. TellsAlike c.in_ok-lead_alike.field-0 (pairs_of l) []) c.deref.ensures.value c.in_ok-lead_alike.ensures in (
      end_told c.args.line c.in_ok-lead_alike.field-0 old old body [] [] visits end old tells w.2 (λ q. refl, λ q. refl) refl w.0
          ∙ ap (λ t. if t then None else Some (BranchesDiffer, c.args.line)) c.if-branch.true,
      unchanged old new (pairs_of c.no_changes.result.items) (c.no_changes.ensures old) w.1,
    )

pub returns : goal.returns
returns c = λ old new visits end walks.
    let w = subst (λ r. WalksAside r old new visits end) c.in-Ok.is walks in
    let body = pairs_of c.in-Ok.changes.items in
    let tells = subst (λ l. TellsAlike c.in_ok-lead_alike.field-0 (pairs_of l) []) c.deref.ensures.value c.in_ok-lead_alike.ensures in
    end_told c.args.line c.in_ok-lead_alike.field-0 old old body [] [] visits end old tells w.2 (λ q. refl, λ q. refl) refl w.0
    ∙ ap (λ t. if t then None else Some (BranchesDiffer, c.args.line)) c.if-branch.false
