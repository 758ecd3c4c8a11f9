use Rattle.std.proofs.Common.{◌+◌, ◌-◌, unwrap_or, ap, arith}
use Rattle.reorder_list.specs.Entries.{first_position}
use Rattle.reorder_list.proofs.Readiness.{read-position}
use Rattle.reorder_list.proofs.search.reached.Goals as goal

pub returns : goal.returns
returns c =
    let entries = c.args.entries.now.items in
    let some = c.if-end-eq0.false in
    let l = c.requires.in_range in
    let is = read-position entries (c.args.end - 1) c.index.result.now c.requires.in_row (omega arith) c.index.ensures in
    let none = ap (λ o. unwrap_or o (first_position entries + c.args.end)) c.in_default.is in
    omega arith
