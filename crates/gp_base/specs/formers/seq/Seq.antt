-- `Seq` as a type through which another may hold itself: where it keeps its elements, and that it owns and lends them as its `Vec` does.
use mathlib.Core.Path.{refl, sym}
use mathlib.Core.Former.{Former, this, list, via}
use base.Stored.{code_map}
use denote.RattleType.{RattleType}
use denote.HoleLaws.{Alike}
use denote.HolePlaces.{Recodes, struct_places, laid}
use denote.Hole.Fix.{over}
use denote.Param.Weighed.{Weighed, w_list}
use denote.Model.Placed.{view_places}
use Rattle.std.specs.formers.vec.Vec as vec
use Rattle.std.specs.declared.alloc.Global.{Global}
use Rattle.std.specs.contracts.alloc.Global as global
use Rattle.std.specs.contracts.impls.GlobalAllocator.TheImpl.{ghosts}
use Rattle.gp_base.specs.declared.seq.Seq.TheInside.{Inside}
use Rattle.gp_base.specs.declared.seq.Seq.TheView.{view, invariant}
use Rattle.gp_base.specs.contracts.seq.Seq as seq
use Rattle.gp_base.specs.contracts.seq.Seq.TheInside as inside

-- a value splits into a shape and its elements as a list does
abbrev pub the_former : Former {0} → Former {0}
the_former g = list g

-- its measure is that of its heaviest element
abbrev pub the_weighed : {g : Former {0}} → Weighed g → Weighed (the_former g)
the_weighed w = w_list w

-- the struct behind the list has one field, a `Vec`
abbrev fields : Former {0}
fields = via (vec.the_former this Global) Inside (λ X s. s.items) (λ X items. record { items = items }) (λ X s. refl) (λ X items. refl)

module _ (R S : RattleType) (h : R.Denot → S.Denot) where
  -- the struct owns and lends what its `Vec` does
  fields_places : Alike R S h → Alike (inside.the_row R) (inside.the_row S) (fields.map R.Denot S.Denot h)
  fields_places alike =
      struct_places (inside.the_type R) (inside.the_type S) (vec.mapped h, tt) (fields.map R.Denot S.Denot h) (λ s. refl) refl
      (laid _ _ _ (vec.the_places global.the_row ghosts R S h alike), tt)

  -- so does the list, since the view shows each element in its place
  pub the_places : Alike R S h → Alike (seq.the_row R) (seq.the_row S) ((the_former this).map R.Denot S.Denot h)
  the_places alike =
      view_places fields (list this) view (λ X Y k s. refl) (λ X s. refl) R.Denot S.Denot h (seq.the_row R).coded (seq.the_row S).coded
      (invariant R.Denot) (invariant S.Denot) (λ s p q. refl) (λ s p q. refl) (λ s p. tt) (λ s p. tt)
      (over (inside.the_row R)) (over (inside.the_row S)) (fields_places alike)

  -- the code of the list is the list of its elements' codes
  pub the_codes_placed : Recodes R S h → Recodes (seq.the_row R) (seq.the_row S) ((the_former this).map R.Denot S.Denot h)
  the_codes_placed same items = sym (code_map R.coded.code S.coded.code h (λ x. sym (same x)) items)
