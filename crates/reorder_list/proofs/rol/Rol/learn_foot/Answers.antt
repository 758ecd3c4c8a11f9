use Rattle.std.proofs.Common.{◌≡◌, ◌∙◌, ◌-◌, ap, arith, nat_eq, refl, sym, inl}
use Rattle.reorder_list.specs.Entries.{known_entry, with_change_at}
use Rattle.reorder_list.proofs.Kept.{changed-entries, changed-kept, history-of-applied}
use Rattle.reorder_list.proofs.Rows.{read-at}
use Rattle.reorder_list.proofs.Unknown.{one_where, one_in, known-set}
use Rattle.reorder_list.proofs.Watching.{upheld-changed}
use Rattle.reorder_list.proofs.rol.Rol.learn_foot.Goals as goal

pub invariant_of-self : goal.invariant_of-self
invariant_of-self c =
    let entries = c.self.inside.entries.items in
    let kept = c.self.invariant.kept in
    let place = c.in-Some.place in
    let old = c.index_mut.result.now in
    let new = c.know_entry.new.entry in
    let read = c.index_mut.ensures.value in
    let there = read-at entries place old c.in-Some.ensures.within read in
    let set = known-set place entries old new c.args.foot there c.know_entry.ensures.entry in
    let one : one_in old ≡ 1 = ap one_where (sym c.know_entry.ensures.known ∙ c.if-not-know_entry.true) in
    let counted = c.self.invariant.unknowns in
    upheld-changed entries c.self.inside.watches.items c.self.inside.marks c.self.inside.marks c.self.inside.touched c.self.inside.unknown
    (c.self.inside.unknown - 1)
    (λ q. nat_eq q c.args.p) (known_entry c.args.foot) _ (λ e. refl) (λ e. refl) (λ p e is there waits l. waits) (λ q x w is here there un. inl un) (omega arith) (omega arith) (omega arith)
    (λ q l is e here was. was) (omega arith) (omega arith)
    (changed-entries entries kept c.args.p place c.in-Some.ensures old read (known_entry c.args.foot) new c.know_entry.ensures.entry)
    (changed-kept entries kept c.args.p place c.in-Some.ensures old read (known_entry c.args.foot) new c.know_entry.ensures.entry refl
    (history-of-applied entries kept c.args.p place c.in-Some.ensures old read))
    c.self.invariant

pub invariant_of-self-else-not-know_entry : goal.invariant_of-self-else-not-know_entry
invariant_of-self-else-not-know_entry c =
    let entries = c.self.inside.entries.items in
    let kept = c.self.invariant.kept in
    let place = c.in-Some.place in
    let old = c.index_mut.result.now in
    let new = c.know_entry.new.entry in
    let read = c.index_mut.ensures.value in
    let there = read-at entries place old c.in-Some.ensures.within read in
    let set = known-set place entries old new c.args.foot there c.know_entry.ensures.entry in
    let none : one_in old ≡ 0 = ap one_where (sym c.know_entry.ensures.known ∙ c.if-not-know_entry.false) in
    let counted = c.self.invariant.unknowns in
    upheld-changed entries c.self.inside.watches.items c.self.inside.marks c.self.inside.marks
    c.self.inside.touched c.self.inside.unknown c.self.inside.unknown
    (λ q. nat_eq q c.args.p) (known_entry c.args.foot) _ (λ e. refl) (λ e. refl) (λ p e is there waits l. waits) (λ q x w is here there un. inl un) (omega arith) (omega arith) (omega arith)
    (λ q l is e here was. was) (omega arith) (omega arith)
    (changed-entries entries kept c.args.p place c.in-Some.ensures old read (known_entry c.args.foot) new c.know_entry.ensures.entry)
    (changed-kept entries kept c.args.p place c.in-Some.ensures old read (known_entry c.args.foot) new c.know_entry.ensures.entry refl
    (history-of-applied entries kept c.args.p place c.in-Some.ensures old read))
    c.self.invariant

pub returns-then-not-know_entry-clause-entries : goal.returns-then-not-know_entry-clause-entries
returns-then-not-know_entry-clause-entries c =
    changed-entries c.self.inside.entries.items c.self.invariant.kept c.args.p c.in-Some.place c.in-Some.ensures c.index_mut.result.now
    c.index_mut.ensures.value
    (known_entry c.args.foot) c.know_entry.new.entry c.know_entry.ensures.entry
    ∙ ap (λ s. with_change_at c.args.p (known_entry c.args.foot) s.entries) c.self.view_is

pub returns-else-not-know_entry-clause-entries : goal.returns-else-not-know_entry-clause-entries
returns-else-not-know_entry-clause-entries c =
    changed-entries c.self.inside.entries.items c.self.invariant.kept c.args.p c.in-Some.place c.in-Some.ensures c.index_mut.result.now
    c.index_mut.ensures.value
    (known_entry c.args.foot) c.know_entry.new.entry c.know_entry.ensures.entry
    ∙ ap (λ s. with_change_at c.args.p (known_entry c.args.foot) s.entries) c.self.view_is
