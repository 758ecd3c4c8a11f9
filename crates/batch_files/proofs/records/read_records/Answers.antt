use Rattle.std.proofs.Common.{◌∙◌, Ok, ap, sym}
use Rattle.batch_files.specs.meaning.Rows.{csv_rows}
use Rattle.batch_files.proofs.CellFacts.{meaning}
use Rattle.batch_files.proofs.records.read_records.Goals as goal

pub returns : goal.returns
returns c =
    let full = rw c.as_slice.ensures at c.in_ok-cells-2.ensures in
    let means = meaning c.args.size (csv_rows c.args.bytes.now) c.in_ok-cells.cells.cells.items c.in_ok-cells-2.cells.cells.items
    c.in_ok-cells.ensures full.0 full.1 in
    means ∙ ap Ok (sym (c.from_vec.ensures ∙ c.in_ok-values.ensures))
