use Rattle.std.proofs.Common.{◌≡◌, take, Some, false}
use Rattle.csv.specs.Writing.{default_writer, text_written}
use Rattle.db_rows.specs.Csv.{csv_of}
use Rattle.db_rows.proofs.text.written.Given as goal

abbrev pub invariant-loop-row : goal.invariant-loop-row
invariant-loop-row l =
    (l.writer.cfg ≡ default_writer) × (l.writer.fields ≡ 0) × (l.writer.wrote ≡ false)
    × (text_written (λ bytes. Some bytes.items) l.writer ≡ Some (csv_of l.skip (take l.row-index l.rows)))
