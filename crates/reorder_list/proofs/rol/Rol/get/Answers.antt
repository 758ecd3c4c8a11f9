use Rattle.std.proofs.Common.{◌∙◌, ap, sym}
use Rattle.reorder_list.specs.Entries.{entry_at}
use Rattle.reorder_list.proofs.Rows.{at-place, got-at}
use Rattle.reorder_list.proofs.rol.Rol.get.Goals as goal

pub returns : goal.returns
returns c =
    got-at c.self.inside.entries.items c.in_ok-place.place c.self.inside.entries.len c.get.result c.in_ok-place.ensures.within
    c.self.inside.entries.ok.0 c.get.ensures.variant c.get.ensures.lookup
    ∙ (sym (at-place c.self.inside.entries.items c.self.invariant.kept.row c.args.p c.in_ok-place.place c.in_ok-place.ensures)
    ∙ ap (λ s. entry_at s.entries c.args.p) c.self.view_is)
