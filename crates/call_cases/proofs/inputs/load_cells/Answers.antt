use Rattle.std.proofs.Common.{◌≡◌, ◌∙◌, ◌+◌, length, ap}
use Rattle.std.proofs.lemmas.List.{length-append}
use Rattle.call_cases.specs.inner.Loading.{seen}
use Rattle.call_cases.proofs.Loads.{records_bad, records_ok}
use Rattle.call_cases.proofs.inputs.load_cells.Goals as goal

pub returns-in-Err-clause-told : goal.returns-in-Err-clause-told
returns-in-Err-clause-told g c =
    records_bad (g.H.Shelf.files c.args.shelf.now) c.args.file.now c.args.size
    (seen c.args.loading.now) c.in-Err.refusal c.in-Err.ensures.told

pub returns-clause-told : goal.returns-clause-told
returns-clause-told g c =
    let done = c.in_ok-put_cells.ensures in
    records_ok (g.H.Shelf.files c.args.shelf.now) c.args.file.now c.args.size (seen c.args.loading.now)
    (seen c.put_cells.new.self) c.in-Ok.cells c.as_slice.result.now c.as_slice.ensures done.records done.feeds c.in-Ok.ensures.told

pub returns-clause-records : goal.returns-clause-records
returns-clause-records g c =
    let before = c.args.loading.now.records.items in
    let same : c.as_slice.result.now ≡ c.in-Ok.cells = c.as_slice.ensures in
    ap length c.in_ok-put_cells.ensures.records ∙ length-append before c.as_slice.result.now
    ∙ ap (λ n. length before + n) (ap length same ∙ c.in-Ok.ensures.size)
