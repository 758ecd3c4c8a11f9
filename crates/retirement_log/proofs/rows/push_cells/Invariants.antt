use Rattle.std.proofs.Common.{◌≡◌, ◌++◌, take, map}
use Rattle.std.specs.Prelude.{All, flat_map}
use Rattle.record_store.specs.Lent.{new_write}
use Rattle.retirement_log.specs.meaning.Rows.{IsWideCell, group, cell_numbers}
use Rattle.retirement_log.specs.meaning.Log.{numbered}
use Rattle.retirement_log.proofs.rows.push_cells.Given as goal

-- the cells so far were appended, and are of 64 bits
abbrev pub invariant-loop-write : goal.invariant-loop-write
invariant-loop-write l = record {
  text : l.text.items ≡ l.fn.text.items ++ group (flat_map cell_numbers
      (map numbered (map (new_write l.under l.bundles) (take l.write-index l.old))));
  wide : All (λ write. IsWideCell (numbered (new_write l.under l.bundles write))) (take l.write-index l.old);
}
