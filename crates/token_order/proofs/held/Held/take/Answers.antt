use Rattle.std.proofs.Common.{◌<◌, Some, length, sym, ap, subst, ◌∙◌}
use Rattle.std.specs.Prelude.{slice_set}
use Rattle.task_ast.specs.meaning.Table.{owned_from}
use Rattle.task_ast.proofs.IssuedTables.{length_set}
use Rattle.task_ast.proofs.Holds.{taken}
use Rattle.token_order.proofs.held.Held.take.Goals as goal

pub returns-clause-stands : goal.returns-clause-stands
returns-clause-stands c =
    let held = c.args.self.now in
    let lock = c.args.lock in
    let same = ap (λ v. v.items) c.in_ok-put.ensures.owners in
    record {
      each =
          λ u. taken held.owners.items held.locks.items c.put.new.self.locks.items lock c.args.t c.requires.stands.each c.requires.free
          c.in_ok-put.ensures.ok u
          ∙ ap (λ owners. owned_from 0 (slice_set owners lock (Some c.args.t)) u) (sym same);
      within =
          λ change is. subst (λ n. change.lock < n) (sym (length_set c.put.new.self.owners.items lock (Some c.args.t) ∙ ap length same))
          (c.requires.stands.within change (sym c.in_ok-put.ensures.change ∙ is));
    }
