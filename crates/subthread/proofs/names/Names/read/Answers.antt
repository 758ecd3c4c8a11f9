use Rattle.std.proofs.Common.{ap, ◌∙◌}
use Rattle.task_ast.specs.meaning.Footprint.{with_cell, Named}
use Rattle.subthread.proofs.Noted.{inserted}
use Rattle.subthread.proofs.names.Names.read.Goals as goal

pub returns : goal.returns
returns c =
    let reads =
    c.in_ok-insert.ensures.keys ∙ inserted c.args.cell c.self.inside.reads.keys
    ∙ ap (λ (n : Named). with_cell c.args.cell n.reads) c.self.view_is in
    λ i. record { reads = reads i; writes = (c.self.view_is i).writes }
