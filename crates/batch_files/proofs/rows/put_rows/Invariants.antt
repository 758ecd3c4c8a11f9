use Rattle.std.proofs.Common.{◌≡◌, Some}
use Rattle.csv.specs.Reading.{Ready, default_config, source_of, strip_bom}
use Rattle.csv.specs.declared.reader.Trim.TheVariants as trim
use Rattle.batch_files.proofs.Passing.{Passed}
use Rattle.batch_files.proofs.rows.put_rows.Given as goal

abbrev pub invariant-loop-number : goal.invariant-loop-number
invariant-loop-number g l = record {
  trim : l.reader.trim ≡ trim.None;
  ready : Ready l.reader;
  config : l.reader.config ≡ default_config;
  passed : Passed (g.T.Table.rule l.fn.table)
      (strip_bom l.fn.bytes) l.reader.state (source_of (λ s. Some s.now) l.reader) l.number (g.T.Table.holds l.fn.table l.table);
}
