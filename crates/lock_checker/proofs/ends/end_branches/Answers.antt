use Rattle.std.proofs.Common.{◌∙◌, ap, subst, [], ◌∷◌, Some, None}
use Rattle.std.specs.Prelude.{not, if◌then◌else◌}
use Rattle.task_ast.specs.declared.check_kind.CheckKind.TheVariants.{BranchesDiffer}
use Rattle.task_ast.specs.meaning.Held.{same_pairs}
use Rattle.task_ast.specs.meaning.Visit.{visit, fails_if}
use Rattle.lock_checker.specs.inner.Faults.{Walks}
use Rattle.lock_checker.specs.inner.Pairs.{pairs_of, TellsAlike}
use Rattle.lock_checker.proofs.EndLemmas.{told_between, end_told, both_held}
use Rattle.lock_checker.proofs.ends.end_branches.Goals as goal

pub returns-in-Err : goal.returns-in-Err
returns-in-Err c = λ old new earlier visits a b none leads walks.
    told_between c.in-Err.fault earlier visits (visit c.args.line (fails_if (not (same_pairs a b)) BranchesDiffer) ∷ []) none
    (subst (λ r. Walks r old new visits b) c.in-Err.is walks)

pub returns-then-branch : goal.returns-then-branch
returns-then-branch c = λ old new earlier visits a b none leads walks.
    let w = subst (λ r. Walks r old new visits b) c.in-Ok.is walks in
    let first = pairs_of c.args.first.now in
    let second = pairs_of c.in-Ok.changes.items in
    let tells = subst (λ l. TellsAlike c.in_ok-lead_alike.field-0 first (pairs_of l)) c.deref.ensures.value c.in_ok-lead_alike.ensures in (
      end_told c.args.line c.in_ok-lead_alike.field-0 old new first second earlier visits a b tells leads w.1 none w.0
          ∙ ap (λ t. if t then None else Some (BranchesDiffer, c.args.line)) c.if-branch.true,
      (w.1.0, both_held c.args.line c.in_ok-lead_alike.field-0 old new first second earlier visits a b tells leads w.1 c.if-branch.true),
    )

pub returns : goal.returns
returns c = λ old new earlier visits a b none leads walks.
    let w = subst (λ r. Walks r old new visits b) c.in-Ok.is walks in
    let first = pairs_of c.args.first.now in
    let second = pairs_of c.in-Ok.changes.items in
    let tells = subst (λ l. TellsAlike c.in_ok-lead_alike.field-0 first (pairs_of l)) c.deref.ensures.value c.in_ok-lead_alike.ensures in
    end_told c.args.line c.in_ok-lead_alike.field-0 old new first second earlier visits a b tells leads w.1 none w.0
    ∙ ap (λ t. if t then None else Some (BranchesDiffer, c.args.line)) c.if-branch.false
