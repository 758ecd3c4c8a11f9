use Rattle.call_cases.specs.inner.Loading.{seen}
use Rattle.call_cases.proofs.Loads.{cells_step}
use Rattle.call_cases.proofs.inputs.load_record.Goals as goal

pub returns-in-Some-clause-told : goal.returns-in-Some-clause-told
returns-in-Some-clause-told g c =
    cells_step (g.H.Shelf.files c.args.shelf.now) c.args.from.now c.in-Some.file c.args.size (seen c.args.loading.now)
    (seen c.load_cells.new.loading) c.load_cells.result c.in-Some.is c.load_cells.ensures.told
