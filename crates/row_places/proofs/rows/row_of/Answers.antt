use Rattle.std.proofs.Common.{Bor, List, ℕ, ◌≡◌, ◌∙◌, ◌+◌, inl, inr, Some, sym, subst, arith}
use Rattle.csv.specs.Reading.{strip_bom}
use Rattle.csv.specs.Records.{fields_of}
use Rattle.batch_files.specs.meaning.Rows.{csv_rows}
use Rattle.row_places.specs.Fields.{row_at}
use Rattle.row_places.proofs.Reading.{read_start, read_more, read_here}
use Rattle.row_places.proofs.rows.row_of.Goals as goal

pub loop-count-init : goal.loop-count-init
loop-count-init c =
    let reader = c.from_reader-reader.ensures in
    let headers = c.has_headers.ensures in
    let flexible = c.flexible.ensures in
    record {
      trim = rw (flexible, headers) at reader.trim ∙ c.new.ensures.trim;
      ready = inr (inr (rw (flexible, headers) at reader.has_headers, reader.headers));
      config = rw (flexible, headers) at reader.config ∙ c.new.ensures.config;
      read = rw (reader.state, reader.source) (read_start (strip_bom c.args.bytes.now));
    }

pub loop-count-preserved : goal.loop-count-preserved
loop-count-preserved c =
    let inv = c.loop-count.invariant in
    let read = rw c.in-Ok-true.field-0-test at (c.in-Ok-true.ensures.reads inv.trim inv.ready) in
    record {
      trim = read.3 ∙ inv.trim;
      ready = inl (c.in-Ok-true.ensures.ready inv.trim);
      config = read.2 ∙ inv.config;
      read = read_more (λ (s : Bor (List ℕ)). Some s.now) c.loop-count.reader c.read_byte_record.new.self
          (strip_bom c.args.bytes.now) c.loop-count.count (fields_of c.read_byte_record.new.row) inv.config inv.read read;
    }

pub returns-then-count-number : goal.returns-then-count-number
returns-then-count-number c =
    let inv = c.loop-count.invariant in
    let read = rw c.in-Ok-true.field-0-test at (c.in-Ok-true.ensures.reads inv.trim inv.ready) in
    let here = read_here (λ (s : Bor (List ℕ)). Some s.now) c.loop-count.reader c.read_byte_record.new.self c.args.bytes.now
    c.loop-count.count (fields_of c.read_byte_record.new.row) inv.config inv.read read in
    let number : c.loop-count.count + 1 ≡ c.args.number = omega arith in
    subst (λ n. fields_of c.read_byte_record.new.row ≡ row_at (csv_rows c.args.bytes.now) n) number (sym here)
