use Rattle.std.proofs.Common.{Bor, List, ℕ, ◌∙◌, inl, inr, Some}
use Rattle.csv.specs.Reading.{strip_bom}
use Rattle.csv.specs.Records.{fields_of}
use Rattle.batch_files.proofs.Passing.{passed_bad, passed_end, passed_more, passed_start}
use Rattle.batch_files.proofs.rows.put_rows.Goals as goal

pub loop-number-init : goal.loop-number-init
loop-number-init g c =
    let reader = c.from_reader-reader.ensures in
    let headers = c.has_headers.ensures in
    let flexible = c.flexible.ensures in
    record {
      trim = rw (flexible, headers) at reader.trim ∙ c.new.ensures.trim;
      ready = inr (inr (rw (flexible, headers) at reader.has_headers, reader.headers));
      config = rw (flexible, headers) at reader.config ∙ c.new.ensures.config;
      passed =
          rw (reader.state, reader.source) (passed_start (g.T.Table.rule c.args.table) (strip_bom c.args.bytes.now)
          (g.T.Table.holds c.args.table c.args.table) c.requires);
    }

pub loop-number-preserved : goal.loop-number-preserved
loop-number-preserved g c =
    let inv = c.loop-number.invariant in
    let read = rw c.in-Ok-true.field-0-test at (c.in-Ok-true.ensures.reads inv.trim inv.ready) in
    record {
      trim = read.3 ∙ inv.trim;
      ready = inl (c.in-Ok-true.ensures.ready inv.trim);
      config = read.2 ∙ inv.config;
      passed = passed_more (λ (s : Bor (List ℕ)). Some s.now) c.loop-number.reader c.read_byte_record.new.self
          (g.T.Table.rule c.args.table) (strip_bom c.args.bytes.now) c.loop-number.number (g.T.Table.holds c.args.table c.loop-number.table)
          (g.T.Table.holds c.args.table c.put.new.self)
          (fields_of c.read_byte_record.new.row) c.in_default.field-0 inv.config inv.passed read
          (λ rows kept. rw c.in_default.is at (c.put.ensures c.args.table rows kept));
    }

pub returns-in-Err-put : goal.returns-in-Err-put
returns-in-Err-put g c =
    let inv = c.loop-number.invariant in
    let read = rw c.in-Ok-true.field-0-test at (c.in-Ok-true.ensures.reads inv.trim inv.ready) in
    rw c.at_row.ensures (passed_bad (λ (s : Bor (List ℕ)). Some s.now) c.loop-number.reader c.read_byte_record.new.self
    (g.T.Table.rule c.args.table) c.args.bytes.now c.loop-number.number (g.T.Table.holds c.args.table c.loop-number.table)
    (g.T.Table.holds c.args.table c.put.new.self)
    (fields_of c.read_byte_record.new.row) c.in-Err-put.fault inv.config inv.passed read
    (λ rows kept. rw c.in-Err-put.is at (c.put.ensures c.args.table rows kept)))

pub returns-in-Ok-false : goal.returns-in-Ok-false
returns-in-Ok-false g c =
    let inv = c.loop-number.invariant in
    let read = rw c.in-Ok-false.field-0-test at (c.in-Ok-false.ensures.reads inv.trim inv.ready) in
    passed_end (λ (s : Bor (List ℕ)). Some s.now) c.loop-number.reader c.read_byte_record.new.self
    (g.T.Table.rule c.args.table) c.args.bytes.now c.loop-number.number (g.T.Table.holds c.args.table c.loop-number.table)
    (fields_of c.read_byte_record.new.row) inv.config inv.passed read
