use Rattle.std.proofs.Common.{◌≡◌, ◌∙◌, ℕ, Bool, true, false, List, [], ◌∷◌, length, None, refl, sym, arith}
use Rattle.gp_base.specs.declared.fault.Fault.{Fault}
use Rattle.reorder_list.specs.declared.entry.Entry.{Entry}
use Rattle.whole_run.specs.inner.Striking.{struck_in}
use Rattle.whole_run.proofs.parts.striking.FaultsInOrder.struck.Goals as goal

-- no fault strikes where there is none
none-struck : (known : Bool) (entries : List Entry) (front : ℕ) (faults : List Fault) → length faults ≡ 0
    → None ≡ struck_in known entries front faults
none-struck true entries front [] none = refl
none-struck false entries front [] none = refl
none-struck known entries front (fault ∷ rest) none = absurd (omega (arith, none))

pub returns-then-len-eq0 : goal.returns-then-len-eq0
returns-then-len-eq0 c =
    none-struck c.args.known c.args.rol.now.entries c.args.front c.args.self.now.list (sym c.len.ensures ∙ c.if-len-eq0.true)
