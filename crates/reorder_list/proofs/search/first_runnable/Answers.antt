use Rattle.std.proofs.Common.{arith}
use Rattle.reorder_list.proofs.Watching.{none-before-fresh, none-either, first-found, none-found}
use Rattle.reorder_list.proofs.search.first_runnable.Goals as goal

pub returns-in-Some-clause-found : goal.returns-in-Some-clause-found
returns-in-Some-clause-found c =
    let found = c.in-Some.ensures.found in
    let below = found.1 in
    let fresh = found.2 in
    record {
      later = found.0;
      runnable = found.3;
      first =
          λ q l high. none-before-fresh c.args.entries.now.items c.args.watches.now.items c.first_woken.new.watches.items c.args.marks.now q
          c.requires.marks c.in-Some.ensures.wider
          (λ low last. c.in-Some.ensures.looked q low last (omega arith) l (omega arith) high) (omega arith);
    }

pub returns-in-None-clause-found : goal.returns-in-None-clause-found
returns-in-None-clause-found c =
    let same = c.in-None.ensures.fresh in
    first-found c.args.entries.now.items c.first_fresh.result c.args.from c.args.below c.first_fresh.ensures.found
    (λ q l high some. none-either c.args.entries.now.items c.args.watches.now.items c.first_woken.new.watches.items
    c.first_fresh.new.watches.items c.args.marks.now q c.requires.marks c.in-None.ensures.wider c.first_fresh.ensures.wider
    (λ low last before. c.in-None.ensures.looked q low last before l high tt)
    (λ after. c.first_fresh.ensures.looked q (omega arith) l high some))

pub returns-in-None-clause-none : goal.returns-in-None-clause-none
returns-in-None-clause-none c =
    let same = c.in-None.ensures.fresh in
    none-found c.args.entries.now.items c.first_fresh.result c.args.from c.args.below
    (λ q l high some. none-either c.args.entries.now.items c.args.watches.now.items c.first_woken.new.watches.items
    c.first_fresh.new.watches.items c.args.marks.now q c.requires.marks c.in-None.ensures.wider c.first_fresh.ensures.wider
    (λ low last before. c.in-None.ensures.looked q low last before l high tt)
    (λ after. c.first_fresh.ensures.looked q (omega arith) l high some))
