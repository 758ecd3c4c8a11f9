use Rattle.std.proofs.Common.{arith}
use Rattle.retirement_log.proofs.Told.{first_taken, none_first}
use Rattle.retirement_log.proofs.notes.take_first.Goals as goal

pub returns-in-Some : goal.returns-in-Some
returns-in-Some c = first_taken c.args.rows.now.items c.pop_front.new.self.items c.in-Some.first c.in-Some.ensures.items

pub returns-in-None : goal.returns-in-None
returns-in-None c =
    let ok = c.args.rows.now.ok in
    let none = c.in-None.ensures.cases.0 in
    none_first c.args.rows.now.items (omega arith)
