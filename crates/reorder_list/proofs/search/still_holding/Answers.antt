use Rattle.std.proofs.Common.{◌∙◌, ◌+◌, subst, arith}
use Rattle.dependence.specs.Conflict.{Conflict}
use Rattle.reorder_list.specs.declared.entry.Entry.{Entry}
use Rattle.reorder_list.specs.Entries.{first_position}
use Rattle.reorder_list.proofs.Rows.{at-place, read-at}
use Rattle.reorder_list.proofs.Readiness.{one-entry, read-there}
use Rattle.reorder_list.proofs.search.still_holding.Goals as goal

pub returns-then-blocks : goal.returns-then-blocks
returns-then-blocks c =
    let entries = c.args.entries.now.items in
    let at = c.in_ok-at.at in
    let place = c.in_ok-at.ensures in
    let is = place.position in
    let l = c.if-at-place.true in
    let found = c.blocks-then-at-place.ensures.blocks c.if-blocks.true in
    let later = c.index-then-at-place.result.now in
    let here = read-there entries c.args.place later c.requires.in_row c.requires.in_range c.index-then-at-place.ensures in
    record {
      before = omega arith;
      entry = c.index.result.now;
      is_there =
          at-place entries c.requires.in_row c.in_ok-earlier.earlier at place
          ∙ read-at entries at c.index.result.now place.within c.index.ensures;
      unapplied = found.1;
      clash =
          λ e there. subst (λ (x : Entry). Conflict c.index.result.now.locks x.locks)
          (one-entry entries (first_position entries + c.args.place) later e here there) found.0;
    }
