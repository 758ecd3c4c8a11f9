use Rattle.std.proofs.Common.{◌≡◌, ◌∙◌, length, All, None, nat_eq, ap, is_some, sym, subst, refl, arith}
use Rattle.reorder_list.specs.declared.entry.Entry.{Entry}
use Rattle.reorder_list.specs.Entries.{StandFrom, known_entry}
use Rattle.reorder_list.proofs.Changes.{is-there, stands-changed, same-length, all-changed}
use Rattle.running_tests.proofs.restarts.learn.Goals as goal

pub learn_foot-requires : goal.learn_foot-requires
learn_foot-requires c =
    ap is_some (is-there 0 c.args.rol.now.entries c.args.p c.requires.row (omega arith) (let below = c.requires.below in omega arith)).1

pub returns-clause-row : goal.returns-clause-row
returns-clause-row c =
    subst (StandFrom 0) (sym c.learn_foot.ensures.entries)
    (stands-changed 0 (λ q. nat_eq q c.args.p) (known_entry c.in_ok-foot.foot) c.args.rol.now.entries (λ e. refl) c.requires.row)

pub returns-clause-len : goal.returns-clause-len
returns-clause-len c =
    ap length c.learn_foot.ensures.entries ∙ same-length (λ q. nat_eq q c.args.p) (known_entry c.in_ok-foot.foot) c.args.rol.now.entries

pub returns-clause-fresh : goal.returns-clause-fresh
returns-clause-fresh c =
    let P : Entry → Type 0 = λ e. (e.attempt ≡ 0) × (e.hist ≡ None) in
    subst (All P) (sym c.learn_foot.ensures.entries)
    (all-changed P P (λ q. nat_eq q c.args.p) (known_entry c.in_ok-foot.foot) c.args.rol.now.entries (λ e h. h) (λ e h. h) c.requires.fresh)
