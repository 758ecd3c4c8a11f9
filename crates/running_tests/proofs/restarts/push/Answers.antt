use Rattle.std.proofs.Common.{◌≡◌, All, None, ap, sym, subst, length, arith}
use Rattle.std.proofs.lemmas.List.Elements.{All-push}
use Rattle.reorder_list.specs.declared.entry.Entry.{Entry}
use Rattle.reorder_list.specs.Entries.{StandFrom}
use Rattle.reorder_list.proofs.Rows.{comes-next, stands-push}
use Rattle.running_tests.proofs.restarts.push.Goals as goal

pub push_back-requires-clause-next : goal.push_back-requires-clause-next
push_back-requires-clause-next c =
    let same = ap length c.reserve.ensures.entries in
    let position = c.in_ok-next.ensures.0 in
    comes-next 0 c.in_ok-next.next.pos c.reserve.new.self.entries (subst (StandFrom 0) (sym c.reserve.ensures.entries) c.requires.row)
    (let next = c.requires.next in omega arith)

pub returns-clause-row : goal.returns-clause-row
returns-clause-row c =
    let same = ap length c.reserve.ensures.entries in
    let position = c.in_ok-next.ensures.0 in
    subst (StandFrom 0) (sym c.push_back.ensures.entries)
    (stands-push 0 c.reserve.new.self.entries c.in_ok-next.next (subst (StandFrom 0) (sym c.reserve.ensures.entries) c.requires.row)
    (let next = c.requires.next in omega arith))

pub returns-clause-fresh : goal.returns-clause-fresh
returns-clause-fresh c =
    let P : Entry → Type 0 = λ e. (e.attempt ≡ 0) × (e.hist ≡ None) in
    let next = c.in_ok-next.ensures in
    subst (All P) (sym c.push_back.ensures.entries)
    (All-push P c.reserve.new.self.entries c.in_ok-next.next (subst (All P) (sym c.reserve.ensures.entries) c.requires.fresh)
    (next.1, next.2))
