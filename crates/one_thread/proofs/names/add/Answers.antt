use Rattle.std.proofs.Common.{◌∙◌}
use Rattle.one_thread.proofs.Naming.{keys-with}
use Rattle.one_thread.proofs.names.add.Goals as goal

pub returns : goal.returns
returns c = c.in_ok-insert.ensures.keys ∙ keys-with c.args.cell c.args.cells.now.keys
