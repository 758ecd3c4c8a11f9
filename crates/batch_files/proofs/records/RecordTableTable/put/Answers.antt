use Rattle.std.proofs.Common.{◌≡◌, length, get_or, None, sym, rules, SFits, w64}
use Rattle.std.proofs.lemmas.Int.{to_z-of_z}
use Rattle.csv.specs.Records.{fields_of}
use Rattle.batch_files.proofs.CellFacts.{put_cell}
use Rattle.batch_files.proofs.records.RecordTableTable.put.Goals as goal

pub returns : goal.returns
returns c = λ begun rows held.
    let entry = c.in_ok-entry.entry in
    let cells = c.args.self.now.cells.items in
    let fits : SFits w64 entry.value = search rules in
    let size : c.len.result ≡ length cells = search rules in
    let free : get_or cells entry.index None ≡ None = search rules in
    put_cell (length begun.cells.items) rows (fields_of c.args.row.now) entry _ cells held (rw size at (sym c.in_ok-entry.ensures.value))
    (to_z-of_z w64 entry.value fits) (rw size at c.in_ok-entry.ensures.range) free
