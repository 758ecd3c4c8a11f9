use Rattle.std.proofs.Common.{◌∙◌, ap, arith, nat_eq, refl, inl}
use Rattle.reorder_list.specs.Entries.{entry_at, out_entry, with_change_at}
use Rattle.reorder_list.proofs.Kept.{changed-entries, out-kept}
use Rattle.reorder_list.proofs.Watching.{out-busy, upheld-kept, upheld-past, waiting-kept}
use Rattle.reorder_list.proofs.rol.Rol.set_out.Goals as goal

pub invariant_of-self : goal.invariant_of-self
invariant_of-self c =
    let entries = c.self.inside.entries.items in
    let news =
    changed-entries entries c.self.invariant.kept c.args.p c.in-Some.place c.in-Some.ensures c.index_mut.result.now
    c.index_mut.ensures.value out_entry c.send_entry.new.entry c.send_entry.ensures in
    rw c.past-self-inside.ensures
    (upheld-past _ c.self.inside.watches.items c.self.inside.marks c.self.inside.touched c.self.inside.unknown c.args.p
    (out-busy entries _ c.args.p news)
    (upheld-kept entries c.self.inside.watches.items c.self.inside.marks c.self.inside.marks
    c.self.inside.touched c.self.inside.unknown
    (λ q. nat_eq q c.args.p) out_entry _ (λ e. refl) (λ e. refl) (λ e. refl)
    (λ p e is there waits l. absurd (cc waits)) (λ q x w is here there un. inl refl) (omega arith) (omega arith) (omega arith)
    (waiting-kept entries c.args.p c.self.inside.marks.whole c.requires.entry out_entry
    (ap (λ s. entry_at s.entries c.args.p) c.self.view_is ∙ c.requires.is_there) c.requires.waits) (omega arith)
    news
    (out-kept entries c.self.invariant.kept c.args.p c.in-Some.place c.in-Some.ensures c.index_mut.result.now
    c.index_mut.ensures.value c.requires.entry c.send_entry.new.entry c.send_entry.ensures
    (ap (λ s. entry_at s.entries c.args.p) c.self.view_is ∙ c.requires.is_there) c.requires.waits)
    c.self.invariant))

pub returns-in-Some-clause-entries : goal.returns-in-Some-clause-entries
returns-in-Some-clause-entries c =
    changed-entries c.self.inside.entries.items c.self.invariant.kept c.args.p c.in-Some.place c.in-Some.ensures c.index_mut.result.now
    c.index_mut.ensures.value out_entry c.send_entry.new.entry c.send_entry.ensures
    ∙ ap (λ s. with_change_at c.args.p out_entry s.entries) c.self.view_is
