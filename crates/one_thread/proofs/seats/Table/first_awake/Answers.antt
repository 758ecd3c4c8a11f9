use Rattle.std.proofs.Common.{◌≡◌, ◌∙◌, ap, sym, subst, arith, map}
use Rattle.task_ast.specs.Table.{Table}
use Rattle.one_thread.specs.inner.Resting.{rests}
use Rattle.one_thread.specs.inner.Sleeping.{SleepBetween}
use Rattle.one_thread.specs.View.{table_of, seat_of}
use Rattle.one_thread.proofs.Sleepers.{rest-sleep, rest-more, kept-way}
use Rattle.one_thread.proofs.seats.Table.first_awake.Goals as goal

pub loop-t-preserved : goal.loop-t-preserved
loop-t-preserved c =
    let old = c.args.self.now in
    let self = c.loop-t.self in
    let same : table_of self ≡ table_of old = c.loop-t.invariant.table in
    let next = c.past_sleepers-next.result in
    let up = c.loop-t.invariant.onward in
    let on = c.past_sleepers-next.ensures.onward in
    record {
      rest =
          rest-more (table_of old) c.args.from next
          (rest-sleep (table_of old) c.args.from c.loop-t.t next c.loop-t.invariant.rest
          (subst (λ (table : Table). SleepBetween c.loop-t.t next table.seats) same c.past_sleepers-next.ensures.sleep))
          (ap (λ table. rests table next) (sym same) ∙ sym c.rests.ensures ∙ c.if-not-rests.false);
      onward = omega (arith, up, on);
      table = same;
      owners = c.loop-t.invariant.owners;
      walks = record {
        walks = c.loop-t.invariant.walks.walks;
        start = c.loop-t.invariant.walks.start;
        sleep =
            kept-way self.ways.items c.keep.new.ways.items (map seat_of self.seats.items) c.loop-t.t next c.in_ok-keep.ensures.here
            c.in_ok-keep.ensures.others c.past_sleepers-next.ensures.sleep c.loop-t.invariant.walks.sleep;
      };
    }

pub returns-then-next-to-clause-walks : goal.returns-then-next-to-clause-walks
returns-then-next-to-clause-walks c =
    let self = c.loop-t.self in
    record {
      walks = c.loop-t.invariant.walks.walks;
      start = c.loop-t.invariant.walks.start;
      sleep =
          kept-way self.ways.items c.keep.new.ways.items (map seat_of self.seats.items) c.loop-t.t c.past_sleepers-next.result
          c.in_ok-keep.ensures.here c.in_ok-keep.ensures.others c.past_sleepers-next.ensures.sleep c.loop-t.invariant.walks.sleep;
    }

pub returns-then-next-to-clause-rest : goal.returns-then-next-to-clause-rest
returns-then-next-to-clause-rest c =
    rest-sleep (table_of c.args.self.now) c.args.from c.loop-t.t c.past_sleepers-next.result c.loop-t.invariant.rest
    (subst (λ (table : Table). SleepBetween c.loop-t.t c.past_sleepers-next.result table.seats) c.loop-t.invariant.table
    c.past_sleepers-next.ensures.sleep)
