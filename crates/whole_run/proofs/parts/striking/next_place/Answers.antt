use Rattle.std.proofs.Common.{◌<◌, inl, inr, refl, pos, sym, arith}
use Rattle.whole_run.proofs.InOrder.{passed-over}
use Rattle.whole_run.proofs.parts.striking.next_place.Goals as goal

pub returns-then-fault-entry-clause-passed : goal.returns-then-fault-entry-clause-passed
returns-then-fault-entry-clause-passed c any front k x low high =
    let last = c.max.ensures in
    let small : c.in-Some.entry.now.attempt < 4294967296 = omega arith in
    passed-over c.args.faults.now c.requires.in_range c.requires.rises any c.args.rol.now.entries front c.args.at
    c.in-Some.entry.now.attempt c.place_from.result (record { pos = 0; attempt = 0; delay = 0; mask = pos 0 }) c.in-Some.entry.now
    c.requires.within c.place_from.ensures.within small (sym c.in-Some.ensures) c.place_from.ensures.before (inl refl)
    k x low (omega arith)

pub returns-then-fault-entry-2-clause-passed : goal.returns-then-fault-entry-2-clause-passed
returns-then-fault-entry-2-clause-passed c any front k x low high =
    let last = c.max-then-fault-entry-2.ensures in
    passed-over c.args.faults.now c.requires.in_range c.requires.rises any c.args.rol.now.entries front c.args.at
    4294967295 c.place_from-then-fault-entry-2.result (record { pos = 0; attempt = 0; delay = 0; mask = pos 0 }) c.in-Some.entry.now
    c.requires.within c.place_from-then-fault-entry-2.ensures.within (omega arith) (sym c.in-Some.ensures)
    c.place_from-then-fault-entry-2.ensures.before (inr c.if-fault-entry-2.true)
    k x low (omega arith)
