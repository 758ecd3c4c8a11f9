use Rattle.std.proofs.Common.{◌≢◌, ◌∙◌, ap, refl}
use Rattle.std.proofs.lemmas.List.{take_all}
use Rattle.csv.specs.declared.writer.QuoteStyle.TheVariants as style
use Rattle.db_rows.specs.Csv.{csv_of}
use Rattle.db_rows.proofs.ReadBack.{write_more, some_same}
use Rattle.db_rows.proofs.text.written.Goals as goal

pub loop-row-init : goal.loop-row-init
loop-row-init c =
    let from = c.from_writer-writer.ensures in
    (from.cfg ∙ c.new.ensures, from.fields, from.wrote, rw (from.wtr, from.empty, c.new-2.ensures.items) refl)

pub loop-row-preserved : goal.loop-row-preserved
loop-row-preserved c =
    let (plain, none, clean, so_far) = c.loop-row.invariant in
    let wrote = c.in-Ok.ensures in
    let numbered : c.loop-row.writer.cfg.style ≢ style.NonNumeric = rw plain (λ e. cc e) in (
      wrote.setup ∙ plain,
      wrote.ended,
      wrote.clean,
      write_more c.args.skip c.loop-row.row-index c.args.rows.now c.row-item.result _ _ _ _ c.loop-row-test.true c.row-item.is
          c.in_ok-fill.ensures plain so_far (wrote.bytes none clean numbered),
    )

pub returns-in-Ok-into_inner : goal.returns-in-Ok-into_inner
returns-in-Ok-into_inner c =
    let (plain, none, clean, so_far) = c.loop-row.invariant in
    let all = ap (csv_of c.args.skip) (take_all c.loop-row.row-index c.args.rows.now c.loop-row-test.false) in
    c.in-Ok-into_inner.ensures.ok ∙ some_same _ _ so_far ∙ all
