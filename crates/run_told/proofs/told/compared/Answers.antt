use Rattle.std.proofs.Common.{rules, ◌≡◌}
use Rattle.lock_checker.specs.Accepted.{program_of}
use Rattle.run_told.specs.Renders.{rendered}
use Rattle.run_told.proofs.Once.{rendered-tells}
use Rattle.run_told.proofs.told.compared.Goals as goal

pub returns : goal.returns
returns c =
    let heads = (program_of c.args.checked.now).heads in
    let is : c.args.text.now ≡ rendered heads c.args.lines c.args.report = search rules in
    rendered-tells heads c.args.lines c.args.report c.args.text.now c.is_wide.ensures.lines c.is_wide.ensures.cells is
