use Rattle.std.proofs.Common.{arith}
use Rattle.reorder_list.proofs.Rows.{none-before, none-past}
use Rattle.reorder_list.proofs.search.place_of.Goals as goal

pub returns-then-p-first : goal.returns-then-p-first
returns-then-p-first c =
    none-before c.args.entries.now.items c.in_ok-first.field-0.now c.args.p c.requires c.in_ok-first.ensures.lookup
    (let l = c.if-p-first.true in omega arith)

pub returns-else-place-len : goal.returns-else-place-len
returns-else-place-len c =
    none-past c.args.entries.now.items c.in_ok-first.field-0.now c.args.p c.requires c.in_ok-first.ensures.lookup
    (let l = c.if-p-first.false in omega arith)
    (let l = c.if-place-len.false in let ok = c.args.entries.now.ok in omega arith)
