use Rattle.std.proofs.Common.{◌≡◌, ◌∙◌, ◌<◌, Bool, List, [], ◌∷◌, length, None, All, MatchOption, refl, sym, subst, arith}
use Rattle.std.specs.List.{AllWithin}
use Rattle.std.specs.List.Sorted.{IsNonDecreasingBy}
use Rattle.gp_base.specs.declared.fault.Fault.{Fault}
use Rattle.gp_base.specs.declared.fault.Faults.{Faults}
use Rattle.gp_base.specs.Faults.{IsInRange}
use Rattle.dependence.specs.meaning.Restarts.{least_struck}
use Rattle.reorder_list.specs.Entries.{first_position}
use Rattle.whole_run.specs.inner.Striking.{strikes, rank, key_of, IsLeastOf}
use Rattle.whole_run.proofs.InOrder.{Misses, in-range, none-empty, none-before, least-moved, least-is}
use Rattle.whole_run.proofs.parts.striking.FaultsInOrder.least_struck.Goals as goal

-- no fault strikes where there is none
none-there : (test : Fault → Bool) (faults : List Fault) → length faults ≡ 0 → None ≡ least_struck test faults
none-there test [] none = refl
none-there test (fault ∷ rest) none = absurd (omega (arith, none))

pub returns-then-len-eq0 : goal.returns-then-len-eq0
returns-then-len-eq0 c =
    none-there (strikes c.args.any c.args.rol.now.entries c.args.front) c.args.self.now.list (sym c.len.ensures ∙ c.if-len-eq0.true)

pub returns-in_default : goal.returns-in_default
returns-in_default c =
    let entries = c.args.rol.now.entries in
    none-empty c.args.any entries c.args.front c.args.self.now.list
    (subst (λ o. MatchOption o (entries ≡ []) (λ p. p ≡ first_position entries)) c.in_default.is c.oldest.ensures)

pub first_struck-requires-clause-rises : goal.first_struck-requires-clause-rises
first_struck-requires-clause-rises c = subst (IsNonDecreasingBy rank) (sym c.as_slice-faults.ensures) c.self.invariant.rises

pub first_struck-requires-clause-in_range : goal.first_struck-requires-clause-in_range
first_struck-requires-clause-in_range c =
    subst (All IsInRange) (sym c.as_slice-faults.ensures) (in-range c.self.inside.given.value c.self.inside.list c.self.invariant)

pub first_struck-requires-clause-before : goal.first_struck-requires-clause-before
first_struck-requires-clause-before c =
    let entries = c.args.rol.now.entries in
    let low = c.place_from-low.result in
    let oldest = subst (λ o. MatchOption o (entries ≡ []) (λ p. p ≡ first_position entries)) c.in-Some.is c.oldest.ensures in
    subst (λ faults. Misses (strikes c.args.any entries c.args.front) faults 0 low) (sym c.as_slice-faults.ensures)
    (none-before c.self.inside.given.value c.self.inside.list c.self.invariant c.args.any entries c.args.front low c.requires
    (rw c.as_slice-faults.ensures at c.place_from-low.ensures.within)
    (subst (λ q. AllWithin (λ fault. rank fault < key_of q 0) c.self.inside.list 0 low) (c.first.view_is ∙ oldest)
    (subst (λ faults. AllWithin (λ fault. rank fault < key_of c.first.inside.0 0) faults 0 low) c.as_slice-faults.ensures
    c.place_from-low.ensures.before)))

pub returns : goal.returns
returns c =
    let test = strikes c.args.any c.args.rol.now.entries c.args.front in
    let found = c.first_struck.result in
    subst (λ (faults : Faults). found ≡ least_struck test faults.list) c.self.view_is
    (least-is test c.self.inside.given.value.list found
    (least-moved test c.self.inside.given.value.list c.self.inside.list found c.self.invariant.same
    (subst (λ faults. IsLeastOf test faults found) c.as_slice-faults.ensures c.first_struck.ensures)))
