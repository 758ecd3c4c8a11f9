use Rattle.std.proofs.Common.{ℤ, List}
use Rattle.batch_files.specs.meaning.Records.{records_by}
use Rattle.call_cases.proofs.Loads.{rows_ok}
use Rattle.call_cases.proofs.Sizes.{record_length}
use Rattle.call_cases.proofs.inputs.record_cells.Goals as goal

pub returns-in-Ok-clause-size : goal.returns-in-Ok-clause-size
returns-in-Ok-clause-size g c = record_length c.args.size c.in_ok-text.text c.in-Ok.cells c.in-Ok.ensures

pub returns-in-Ok-clause-told : goal.returns-in-Ok-clause-told
returns-in-Ok-clause-told g c =
    rows_ok (g.H.Shelf.files c.args.shelf.now) (λ (cells : List ℤ). cells) c.args.name.now c.in_ok-text.text
    (records_by c.args.size) c.in-Ok.cells c.in_ok-text.ensures.told c.in-Ok.ensures
