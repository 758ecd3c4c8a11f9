use Rattle.std.proofs.Common.{◌∙◌, ap, arith, nat_eq, refl}
use Rattle.reorder_list.specs.declared.marks.Marks.{Marks}
use Rattle.reorder_list.specs.Entries.{applied_entry, with_change_at}
use Rattle.reorder_list.proofs.Kept.{changed-entries, changed-kept}
use Rattle.reorder_list.proofs.Watching.{upheld-kept, waking-holds}
use Rattle.reorder_list.proofs.rol.Rol.set_applied.Goals as goal

pub invariant_of-self : goal.invariant_of-self
invariant_of-self c =
    let entries = c.self.inside.entries.items in
    let watches = c.self.inside.watches.items in
    let marks = c.self.inside.marks in
    let many = c.self.invariant.many in
    let l = c.in-Some.ensures.within in
    let change = applied_entry c.args.history c.args.lines in
    let watch = c.index.result.now in
    let fresh = ap (λ (m : Marks). m.fresh) c.waking-self-inside.ensures in
    let low = ap (λ (m : Marks). m.low) c.waking-self-inside.ensures in
    let last = ap (λ (m : Marks). m.last) c.waking-self-inside.ensures in
    let whole = ap (λ (m : Marks). m.whole) c.waking-self-inside.ensures in
    upheld-kept entries watches marks _ c.self.inside.touched c.self.inside.unknown
    (λ q. nat_eq q c.args.p) change _ (λ e. refl) (λ e. refl) (λ e. refl)
    (λ p e is there waits l. absurd (cc waits))
    (rw c.waking-self-inside.ensures (waking-holds entries watches c.args.p c.in-Some.place watch marks change c.self.invariant.kept.row c.in-Some.ensures
    (omega arith) c.index.ensures))
    (omega arith) (omega arith) (omega arith)
    (λ q l is e here was. refl) (omega arith)
    (changed-entries entries c.self.invariant.kept c.args.p c.in-Some.place c.in-Some.ensures c.index_mut.result.now
    c.index_mut.ensures.value change c.apply_entry.new.entry c.apply_entry.ensures)
    (changed-kept entries c.self.invariant.kept c.args.p c.in-Some.place c.in-Some.ensures c.index_mut.result.now
    c.index_mut.ensures.value change c.apply_entry.new.entry c.apply_entry.ensures refl (λ some. refl))
    c.self.invariant

pub returns-in-Some-clause-entries : goal.returns-in-Some-clause-entries
returns-in-Some-clause-entries c =
    changed-entries c.self.inside.entries.items c.self.invariant.kept c.args.p c.in-Some.place c.in-Some.ensures c.index_mut.result.now
    c.index_mut.ensures.value (applied_entry c.args.history c.args.lines)
    c.apply_entry.new.entry c.apply_entry.ensures
    ∙ ap (λ s. with_change_at c.args.p (applied_entry c.args.history c.args.lines) s.entries) c.self.view_is
