use Rattle.std.proofs.Common.{◌∙◌, ◌+◌, pos, sym, arith}
use Rattle.whole_run.specs.inner.Striking.{strikes}
use Rattle.whole_run.proofs.InOrder.{none-past, first-found, missed-more, missed-then, by-position}
use Rattle.whole_run.proofs.parts.striking.first_struck.Goals as goal

pub returns-then-saturating_sub-len : goal.returns-then-saturating_sub-len
returns-then-saturating_sub-len c =
    let within = c.striking-test.true in
    let first = c.first.view_is in
    let less = c.saturating_sub.ensures in
    let many = c.len.ensures in
    let far = c.if-saturating_sub-len.true in
    none-past c.args.any c.args.rol.now.entries c.args.front c.args.faults.now c.striking.at c.args.first
    (record { pos = 0; attempt = 0; delay = 0; mask = pos 0 })
    (by-position c.args.faults.now c.requires.in_range c.requires.rises)
    (omega arith) c.requires.row c.requires.first (omega arith) c.striking.invariant.missed

pub returns-then-strikes : goal.returns-then-strikes
returns-then-strikes c =
    let within = c.striking-test.true in
    first-found (strikes c.args.any c.args.rol.now.entries c.args.front) c.args.faults.now c.striking.at
    (record { pos = 0; attempt = 0; delay = 0; mask = pos 0 })
    (by-position c.args.faults.now c.requires.in_range c.requires.rises)
    (omega arith) c.striking.invariant.missed (sym c.strikes.ensures ∙ c.if-strikes.true)

pub striking-preserved : goal.striking-preserved
striking-preserved c =
    let within = c.striking-test.true in
    let test = strikes c.args.any c.args.rol.now.entries c.args.front in
    record {
      within = c.next_place-at.ensures.within;
      missed = missed-then test c.args.faults.now (c.striking.at + 1) c.next_place-at.result
          (missed-more test c.args.faults.now c.striking.at (record { pos = 0; attempt = 0; delay = 0; mask = pos 0 })
          (omega arith) c.striking.invariant.missed (sym c.strikes.ensures ∙ c.if-strikes.false))
          (c.next_place-at.ensures.passed c.args.any c.args.front);
    }
