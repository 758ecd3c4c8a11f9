use Rattle.std.proofs.Common.{inl, ◌∙◌, ◌<◌, Option, IfSome, IsTrue, ap, arith, nat_eq, refl, sym, subst, is_some}
use Rattle.std.specs.Option.{IsSomeAnd}
use Rattle.reorder_list.specs.declared.entry.Entry.{Entry}
use Rattle.reorder_list.specs.declared.marks.Marks.{Marks}
use Rattle.reorder_list.specs.Entries.{Entered, entry_at, is_applied, histories_of, raised_entry, with_change_at}
use Rattle.reorder_list.proofs.Kept.{changed-entries, changed-kept, entry-is, history-of-applied, holds-here}
use Rattle.std.proofs.lemmas.Bool.{eqb-true}
use Rattle.reorder_list.proofs.Watching.{upheld-kept}
use Rattle.reorder_list.proofs.rol.Rol.raise.Goals as goal

pub raise_entry-requires : goal.raise_entry-requires
raise_entry-requires c =
    holds-here c.self.inside.entries.items c.self.invariant.kept c.args.p c.in_ok-place.place c.in_ok-place.ensures c.index_mut.result.now
    c.index_mut.ensures.value (λ e. e.attempt < 4294967295)
    (let Q : Entered → Type 0 = λ s. IsSomeAnd (entry_at s.entries c.args.p) (λ e. e.attempt < 4294967295) in
    subst Q (sym c.self.view_is) c.requires)

pub invariant_of-self : goal.invariant_of-self
invariant_of-self c =
    let entries = c.self.inside.entries.items in
    let kept = c.self.invariant.kept in
    let place = c.in_ok-place.place in
    let old = c.index_mut.result.now in
    let fresh = ap (λ (m : Marks). m.fresh) c.lowered-self-inside.ensures in
    let low = ap (λ (m : Marks). m.low) c.lowered-self-inside.ensures in
    let last = ap (λ (m : Marks). m.last) c.lowered-self-inside.ensures in
    let whole = ap (λ (m : Marks). m.whole) c.lowered-self-inside.ensures in
    upheld-kept entries c.self.inside.watches.items c.self.inside.marks c.lowered-self-inside.result
    c.self.inside.touched c.self.inside.unknown
    (λ q. nat_eq q c.args.p) (raised_entry c.args.front) _ (λ e. refl) (λ e. refl) (λ e. refl)
    (λ q e is there waits l. absurd (let same = eqb-true q c.args.p is in omega arith))
    (λ q x w is here there un. inl refl) (omega arith) (omega arith) (omega arith)
    (λ q l is e here was. absurd (let same = eqb-true q c.args.p is in omega arith)) (omega arith)
    (changed-entries entries kept c.args.p place c.in_ok-place.ensures old c.index_mut.ensures.value
    (raised_entry c.args.front) c.raise_entry.new.entry c.raise_entry.ensures.entry)
    (changed-kept entries kept c.args.p place c.in_ok-place.ensures old c.index_mut.ensures.value (raised_entry c.args.front)
    c.raise_entry.new.entry c.raise_entry.ensures.entry refl (λ some. some))
    c.self.invariant

pub returns-clause-history : goal.returns-clause-history
returns-clause-history c =
    c.raise_entry.ensures.history
    ∙ (ap (λ o. Rattle.std.specs.Option.option_and_then (λ (e : Entry). e.hist) o)
    (sym (entry-is c.self.inside.entries.items c.self.invariant.kept c.args.p c.in_ok-place.place c.in_ok-place.ensures
    c.index_mut.result.now c.index_mut.ensures.value))
    ∙ ap (λ s. histories_of s.entries c.args.p) c.self.view_is)

pub returns-clause-applied : goal.returns-clause-applied
returns-clause-applied c =
    let has : IsTrue (is_some c.raise_entry.result) → IsTrue (is_applied c.index_mut.result.now.state) =
    λ some. history-of-applied c.self.inside.entries.items c.self.invariant.kept c.args.p c.in_ok-place.place c.in_ok-place.ensures
    c.index_mut.result.now c.index_mut.ensures.value
    (sym (ap is_some c.raise_entry.ensures.history) ∙ some) in
    let Q : Option Entry → Type 0 = λ o. IfSome o (λ e. IsTrue (is_some c.raise_entry.result) → IsTrue (is_applied e.state)) in
    subst Q (sym (entry-is c.self.inside.entries.items c.self.invariant.kept c.args.p c.in_ok-place.place c.in_ok-place.ensures
    c.index_mut.result.now c.index_mut.ensures.value) ∙ ap (λ s. entry_at s.entries c.args.p) c.self.view_is) has

pub returns-clause-entries : goal.returns-clause-entries
returns-clause-entries c =
    changed-entries c.self.inside.entries.items c.self.invariant.kept c.args.p c.in_ok-place.place c.in_ok-place.ensures
    c.index_mut.result.now c.index_mut.ensures.value (raised_entry c.args.front)
    c.raise_entry.new.entry c.raise_entry.ensures.entry
    ∙ ap (λ s. with_change_at c.args.p (raised_entry c.args.front) s.entries) c.self.view_is
