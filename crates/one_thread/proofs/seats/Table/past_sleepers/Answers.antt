use Rattle.std.proofs.Common.{◌≡◌, ◌∙◌, ◌<◌, sym, ap, subst, arith, length, map}
use Rattle.one_thread.specs.inner.Sleeping.{SleepBetween, way_at}
use Rattle.one_thread.specs.View.{seat_of}
use Rattle.task_ast.proofs.Looks.{get-at}
use Rattle.task_ast.proofs.SeenSeats.{seen-at}
use Rattle.one_thread.proofs.Sleepers.{further-sleep}
use Rattle.one_thread.proofs.seats.Table.past_sleepers.Goals as goal

pub loop-t-preserved : goal.loop-t-preserved
loop-t-preserved c =
    let self = c.args.self.now in
    let items = self.seats.items in
    let inside : c.loop-t.t < length items = omega arith in
    let seat = c.index.result.now in
    let leads : c.way.result ≡ way_at self.ways.items c.loop-t.t = c.way.ensures ∙ ap (λ ws. way_at ws c.loop-t.t) c.deref.ensures.value in
    let up = c.loop-t.invariant.1 in
    let next = c.max-t.ensures in (
      subst (λ n. SleepBetween c.args.from n (map seat_of items)) (sym next)
          (further-sleep (map seat_of items) c.args.from c.loop-t.t c.way.result (seat_of seat)
          (seen-at seat_of items c.loop-t.t seat (get-at items c.loop-t.t seat inside c.index.ensures))
          (sym c.sleeps.ensures ∙ c.if-not-sleeps.false) c.loop-t.invariant.0
          (subst (λ n. SleepBetween c.loop-t.t n (map seat_of items)) (sym leads) (c.requires.walks.sleep c.loop-t.t))),
      omega (arith, up, next),
    )
