use Rattle.std.proofs.Common.{◌∙◌, ap, is_some}
use Rattle.whole_run.specs.inner.Kept.{batch_in}
use Rattle.whole_run.proofs.InOrder.{in-row}
use Rattle.whole_run.proofs.Struck.{struck-same}
use Rattle.whole_run.proofs.parts.detecting.due.Goals as goal

pub struck-requires : goal.struck-requires
struck-requires c = in-row _ c.args.parts.now.rol.entries c.requires.kept.window.entries_are.row

pub returns : goal.returns
returns c =
    c.is_some.ensures
    ∙ ap is_some
    (c.struck.ensures
    ∙ struck-same (batch_in c.args.plan.now) c.args.parts.now c.requires.kept c.is_some-known.result c.is_some-known.ensures)
