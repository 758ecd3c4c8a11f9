use Rattle.std.proofs.Common.{◌∙◌, subst, sym}
use Rattle.std.proofs.lemmas.Bool.{eq-eqb, eqb-true}
use Rattle.reorder_list.specs.Entries.{Entered, AllKnown}
use Rattle.reorder_list.proofs.Unknown.{none-unknown, all-known}
use Rattle.reorder_list.proofs.rol.Rol.all_known.Goals as goal

pub returns : goal.returns
returns c =
    let entries = c.self.inside.entries.items in
    let Q : Entered → Type 0 = λ s. AllKnown s.entries in (
      λ t. subst Q c.self.view_is (none-unknown entries (sym c.self.invariant.unknowns ∙ eqb-true c.self.inside.unknown 0 t)),
      λ all. eq-eqb c.self.inside.unknown 0 (c.self.invariant.unknowns ∙ all-known entries (subst Q (sym c.self.view_is) all)),
    )
