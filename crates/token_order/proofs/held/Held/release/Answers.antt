use Rattle.std.proofs.Common.{◌<◌, None, Some, length, sym, ap, subst, ◌∙◌}
use Rattle.std.specs.Prelude.{slice_set}
use Rattle.task_ast.specs.meaning.Table.{owned_from}
use Rattle.task_ast.proofs.IssuedTables.{length_set}
use Rattle.task_ast.proofs.Looks.{get-at}
use Rattle.task_ast.proofs.Holds.{released}
use Rattle.token_order.proofs.held.Held.release.Goals as goal

pub returns-in_ok-put-clause-stands : goal.returns-in_ok-put-clause-stands
returns-in_ok-put-clause-stands c =
    let held = c.args.self.now in
    let lock = c.args.lock in
    let same = ap (λ v. v.items) c.in_ok-put.ensures.owners in
    let at = get-at held.owners.items lock c.index.result.now c.requires.within c.index.ensures ∙ ap Some c.in-Some.is in
    record {
      each =
          λ u. released held.owners.items held.locks.items c.put.new.self.locks.items lock c.in-Some.owner c.requires.stands.each
          c.requires.within at c.in_ok-put.ensures.ok u
          ∙ ap (λ owners. owned_from 0 (slice_set owners lock None) u) (sym same);
      within =
          λ change is. subst (λ n. change.lock < n) (sym (length_set c.put.new.self.owners.items lock None ∙ ap length same))
          (c.requires.stands.within change (sym c.in_ok-put.ensures.change ∙ is));
    }
