use Rattle.std.proofs.Common.{◌≡◌, ◌∙◌, ◌-◌, List, not, subst, sym, ap, arith, slice_get}
use Rattle.std.specs.Option.{IsSomeAnd}
use Rattle.reorder_list.specs.declared.entry.Entry.{Entry}
use Rattle.reorder_list.specs.declared.entry.State.TheVariants.{Applied}
use Rattle.reorder_list.specs.Entries.{Entered, is_applied}
use Rattle.reorder_list.specs.Watched.{IsUpheld}
use Rattle.reorder_list.proofs.Unknown.{one_where, one_in, unknown-first}
use Rattle.reorder_list.proofs.Watching.{upheld-rest}
use Rattle.reorder_list.proofs.rol.Rol.retire_front.Goals as goal

pub invariant_of-self : goal.invariant_of-self
invariant_of-self c =
    let news = c.pop_front-2.new.self.items in
    let first = c.in-Some.entry in
    let watches = c.self.inside.watches.items in
    let old =
    subst (λ es. IsUpheld es watches c.self.inside.marks c.self.inside.touched c.self.inside.unknown) c.in-Some.ensures.items
    c.self.invariant in
    let one : one_in first ≡ 1 = ap one_where (c.is_none.ensures ∙ ap not c.if-is_none.true) in
    let Q : Entered → Type 0 = λ s. IsSomeAnd (slice_get s.entries 0) (λ e. e.state ≡ Applied) in
    let R : List Entry → Type 0 = λ es. IsSomeAnd (slice_get es 0) (λ e. e.state ≡ Applied) in
    let applied : first.state ≡ Applied = subst R c.in-Some.ensures.items (subst Q (sym c.self.view_is) c.requires) in
    let counted = old.unknowns in
    let more = unknown-first first news in
    upheld-rest first news watches c.pop_front.new.self.items c.self.inside.marks c.self.inside.touched c.self.inside.unknown
    (c.self.inside.unknown - 1) c.pop_front.ensures.rest (omega arith) (ap is_applied applied) old

pub invariant_of-self-else-is_none : goal.invariant_of-self-else-is_none
invariant_of-self-else-is_none c =
    let news = c.pop_front-2.new.self.items in
    let first = c.in-Some.entry in
    let watches = c.self.inside.watches.items in
    let old =
    subst (λ es. IsUpheld es watches c.self.inside.marks c.self.inside.touched c.self.inside.unknown) c.in-Some.ensures.items
    c.self.invariant in
    let none : one_in first ≡ 0 = ap one_where (c.is_none.ensures ∙ ap not c.if-is_none.false) in
    let Q : Entered → Type 0 = λ s. IsSomeAnd (slice_get s.entries 0) (λ e. e.state ≡ Applied) in
    let R : List Entry → Type 0 = λ es. IsSomeAnd (slice_get es 0) (λ e. e.state ≡ Applied) in
    let applied : first.state ≡ Applied = subst R c.in-Some.ensures.items (subst Q (sym c.self.view_is) c.requires) in
    upheld-rest first news watches c.pop_front.new.self.items c.self.inside.marks c.self.inside.touched
    c.self.inside.unknown c.self.inside.unknown c.pop_front.ensures.rest (omega arith) (ap is_applied applied) old
