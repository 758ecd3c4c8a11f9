use Rattle.std.proofs.Common.{◌≡◌, Some}
use Rattle.csv.specs.Reading.{Ready, default_config, source_of, strip_bom}
use Rattle.csv.specs.declared.reader.Trim.TheVariants as trim
use Rattle.row_places.proofs.Reading.{HasRead}
use Rattle.row_places.proofs.rows.row_of.Given as goal

abbrev pub invariant-loop-count : goal.invariant-loop-count
invariant-loop-count l = record {
  trim : l.reader.trim ≡ trim.None;
  ready : Ready l.reader;
  config : l.reader.config ≡ default_config;
  read : HasRead (strip_bom l.fn.bytes) l.reader.state (source_of (λ s. Some s.now) l.reader) l.count;
}
